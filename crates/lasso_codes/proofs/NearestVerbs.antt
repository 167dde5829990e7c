-- The nearest verb, one verb after another.
--
-- Of the verbs before an index, none has fewer edits than a number. The verb at the index has fewer, and then its
-- number takes the place of the other, or it has not.
use Rattle.std.proofs.Common.{ℕ, ◌≡◌, ◌+◌, ◌≤◌, ◌<◌, take, get_or, Option, Some, None, subst, sym, ◌∙◌, arith}
use Rattle.std.specs.Prelude.{All, IfSome}
use Rattle.std.proofs.lemmas.List.{take_all}
use Rattle.std.proofs.lemmas.List.Elements.{All-more, All-weaker}
use Rattle.lasso_parts.specs.Texts.{Text}
use Rattle.lasso_codes.specs.Nearest.{edits, verbs}
use Rattle.lasso_codes.specs.declared.arguments.Verb.{Verb}

module _ (word : Text) where
  -- no fewer edits than this
  abbrev pub IsAsFar : ℕ → Verb → Type 0
  IsAsFar least other = least ≤ edits word other

  -- the verb as the nearest one, of those before an index
  abbrev pub IsNearest : ℕ → Option Verb → Type 0
  IsNearest least nearest = IfSome nearest (λ verb. (edits word verb ≡ least) × (least ≤ 2))

  -- the verb at the index has fewer edits
  pub nearer : (i least count : ℕ) (verb d : Verb) (least' : ℕ) (nearest' : Option Verb) → i < 8 → All (IsAsFar least) (take i verbs) → least ≤ 3
      → verb ≡ get_or verbs i d → count ≡ edits word verb → count < least → least' ≡ count → nearest' ≡ Some verb
      → All (IsAsFar least') (take (i + 1) verbs) × IsNearest least' nearest' × (least' ≤ 3)
  nearer i least count verb d least' nearest' small so_far few is counted less same found =
      let near : least' ≤ edits word verb = omega (arith, counted, same) in
      let equal : edits word verb ≡ least' = sym (same ∙ counted) in
      let two : least' ≤ 2 = omega (arith, less, few, same) in (
        All-more (IsAsFar least') verbs i d small (All-weaker (IsAsFar least) (IsAsFar least') (λ other far. omega (arith, far, less, same)) (take i verbs) so_far) (subst (IsAsFar least') is near),
        subst (IsNearest least') (sym found) (equal, two),
        omega (arith, two),
      )

  -- it has not
  pub no_nearer : (i least count : ℕ) (verb d : Verb) (nearest : Option Verb) (least' : ℕ) (nearest' : Option Verb) → i < 8 → All (IsAsFar least) (take i verbs) → IsNearest least nearest → least ≤ 3
      → verb ≡ get_or verbs i d → count ≡ edits word verb → least ≤ count → least' ≡ least → nearest' ≡ nearest
      → All (IsAsFar least') (take (i + 1) verbs) × IsNearest least' nearest' × (least' ≤ 3)
  no_nearer i least count verb d nearest least' nearest' small so_far nearest_is few is counted more same found =
      let far : least ≤ edits word verb = omega (arith, counted, more) in (
        subst (λ n. All (IsAsFar n) (take (i + 1) verbs)) (sym same) (All-more (IsAsFar least) verbs i d small so_far (subst (IsAsFar least) is far)),
        subst (λ n. IsNearest n nearest') (sym same) (subst (IsNearest least) (sym found) nearest_is),
        omega (arith, few, same),
      )

  -- after the last verb
  pub nearest_of_all : (i least : ℕ) (nearest : Option Verb) → 8 ≤ i → All (IsAsFar least) (take i verbs) → IsNearest least nearest → IfSome nearest (λ verb. All (λ other. edits word verb ≤ edits word other) verbs)
  nearest_of_all i least None past so_far is = tt
  nearest_of_all i least (Some verb) past so_far is =
      All-weaker (IsAsFar least) (λ other. edits word verb ≤ edits word other) (λ other far. omega (arith, far, is.0)) verbs (subst (All (IsAsFar least)) (take_all i verbs past) so_far)
