-- What a latch shares, and what a claim owns.
--
-- While a latch is shared, for a lifetime α, an invariant keeps its word and one of two things. `lent`: nobody
-- has the value whole. It is shared for its own lifetime `a`, whose token is cut into 2 ^ 63 lots. Each
-- reader has one lot, and the invariant the rest, at most as many short as the word has readers. With all
-- lots it can end `a`. `out`: somebody has the value whole, and the invariant only keeps the lots of nothing
-- but one, which is the claim's.
--
-- A lot is a part of one ghost name, which says of what it is: of nothing by 0, of the token of `a` by
-- `a + 1`. So whoever brings a lot back learns which of the two the latch is in, and the name changes only if
-- all lots are in one hand.
use Rattle.std.specs.Prelude.{ℕ, zero, suc, ◌+◌, ◌-◌, ◌<◌, ◌≤◌, [], ◌∷◌, Option, Some, None}
use base.FractionLaws.{Counts}
use base.Fraction.{full_share}
use base.Stored.{coded_ℕ}
use base.SetCodes.{coded}
use base.Algebra.{Algebra}
use base.Algebras.{both, shares, agreed}
use base.Fml.{Lft, GName, Share, Fml, ftrue, ffalse, fsep, fex, flft, fbor, flent, fown}
use prog.Memory.{up, align}
use denote.RattleType.{RattleType}
use denote.Memory.{part_at, shared_of, lone}
use denote.RawPtr.{Ptr, block_ptr, null_ptr}
use denote.Sharing.{said, beside, some, ends, always, within, nothing}
use Rattle.core.specs.Sync.RawAtomic.{word}
use Rattle.lasso_lock.specs.LatchWords.{taken, readers}

-- a fact, as a formula
abbrev pub holds : Type 0 → Fml
holds φ = fex φ (λ _. ftrue)

abbrev pub naming : Algebra
naming = both shares (agreed (coded coded_ℕ))

abbrev pub named_as : GName → ℕ → Share → Fml
named_as γ v e = fown naming γ (e, v)

abbrev pub token : ℕ → Share → Fml
token zero e = ftrue
token (suc a) e = flft (a ∷ []) e

abbrev pub lots_at : GName → ℕ → Share → Fml
lots_at γ v e = fsep (token v e) (named_as γ v e)

-- k of the 2 ^ 63 lots of v
abbrev pub lots : GName → ℕ → ℕ → Fml
lots γ v k = fex Share (λ e. fex (Counts 63 e k) (λ _. lots_at γ v e))

-- one lot of v
abbrev pub lot : GName → ℕ → Fml
lot γ v = lots γ v 1

-- all lots but m
abbrev pub all_but : ℕ → GName → ℕ → Fml
all_but m γ v = lots γ v (9223372036854775808 - m)

-- the lifetime α that a latch is shared for, and the name γ of its lots
abbrev pub Keeping : Type 0
Keeping = Lft × GName

-- the two things that the invariant keeps: `out`, and `lent` with its lifetime, how many lots are out, and
-- the value
pub data Stage (X : Type 0) : Type 0 where
  out : Stage X
  lent : ℕ → ℕ → X → Stage X

-- the value is after the word, at the first place that its type's alignment allows
abbrev pub value_at : RattleType → ℕ
value_at R = up (align (lone R.mir)) 8

-- What a pointer leads to, by its block and its place there. No latch is at the null pointer.
abbrev pub at_place : Ptr → (ℕ → ℕ → Fml) → Fml
at_place null_ptr P = ffalse
at_place (block_ptr b o) P = P b o

abbrev pub lent_at : Ptr → (ℕ → ℕ → Lft → Fml) → Lft → Fml
lent_at null_ptr P = said ffalse
lent_at (block_ptr b o) P = P b o

module _ (R : RattleType) (fits : R.Denot → Type 0) where
  module _ (b o : ℕ) where
    abbrev pub content : Fml
    content = fex R.Denot (λ x. fsep (holds (fits x)) (part_at R full_share x b (o + value_at R)))

    abbrev pub visible : R.Denot → Lft → Fml
    visible x = beside (said (holds (fits x))) (shared_of R x b (o + value_at R))

    abbrev pub visible_some : Option R.Denot → Lft → Lft → Fml
    visible_some None β = said ffalse
    visible_some (Some x) β = within β (visible x)

    -- what others see of a claim that is lent to them: a reader's value, and nothing of another claim
    abbrev pub visible_by : ℕ → Option R.Denot → Lft → Lft → Fml
    visible_by zero v β = nothing
    visible_by (suc zero) v β = visible_some v β
    visible_by (suc (suc k)) v β = nothing

    module _ (t : Keeping) where
      -- the right to have the value whole again, once `a` has ended
      abbrev pub due : ℕ → Fml
      due a = flent (a ∷ t.0) (fbor t.0 content)

      abbrev pub stage : ℕ → Stage R.Denot → Fml
      stage w out = fsep (holds (taken ≤ w)) (all_but 1 t.1 0)
      stage w (lent a m x) = fsep (holds ((w < taken) × (m ≤ readers w))) (fsep (all_but m t.1 (suc a)) (fsep (visible x (a ∷ t.0)) (due a)))

      abbrev pub staged : ℕ → Fml
      staged w = fex (Stage R.Denot) (stage w)

      abbrev pub kept_word : Fml
      kept_word = fex ℕ (λ w. fsep (word b (o + 0) w) (staged w))

      abbrev pub known : Lft → Fml
      known = beside (ends t.0) (always (fbor t.0 kept_word))

      abbrev pub reading : R.Denot → Fml
      reading x = fex ℕ (λ a. fsep (lot t.1 (suc a)) (visible x (a ∷ t.0)))

      abbrev pub reading_some : Option R.Denot → Fml
      reading_some None = ffalse
      reading_some (Some x) = reading x

      abbrev pub having : Fml
      having = fsep (lot t.1 0) (fbor t.0 content)

      abbrev pub entitled : ℕ → Option R.Denot → Fml
      entitled zero v = ftrue
      entitled (suc zero) v = reading_some v
      entitled (suc (suc k)) v = having

  -- a latch that nobody shares: its fields, with a value that fits
  abbrev pub owned_latch : (ℕ → R.Denot → Fml) → Fml
  owned_latch fields = fex ℕ (λ w. fex R.Denot (λ x. fsep (holds (fits x)) (fields w x)))

  -- a latch that threads share, for a lifetime
  abbrev pub shared_latch : Ptr → Lft → Fml
  shared_latch p = lent_at p (λ b o. some Keeping (known b o))

  module _ (β : Lft) (p : Ptr) (right : ℕ) (v : Option R.Denot) where
    -- what a claim with this right owns
    abbrev pub claimed : Fml
    claimed = at_place p (λ b o. fex Keeping (λ t. fsep (known b o t β) (entitled b o t right v)))

    -- what others see of a claim
    abbrev pub lent_claim : Lft → Fml
    lent_claim = lent_at p (λ b o. visible_by b o right v β)
