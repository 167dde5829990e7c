-- A list that lacks the texts of all numbers from some on, as it grows by the next one.
use Rattle.std.proofs.Common.{◌≡◌, ◌≢◌, ℕ, ◌+◌, ◌^◌, ◌<◌, ◌≤◌, List, [], ◌∷◌, ◌++◌, length, Option, None, IsSome, ap, ◌∙◌, subst, arith, drop}
use Rattle.std.proofs.lemmas.Fmt.{decimal_injective}
use Rattle.lasso_parts.specs.Texts.{Text, position_of}
use Rattle.lasso_shared.proofs.Positions.{position_other}
use Rattle.tool_bench.specs.Names.{named}

abbrev pub LacksFrom : ℕ → List Text → Type 0
LacksFrom n texts = (m : ℕ) → n ≤ m → m < 2 ^ 64 → position_of texts (named m) ≡ None

named_apart : (m n : ℕ) → m < 2 ^ 64 → n < m → named m ≢ named n
named_apart m n fits low e =
    let same : m ≡ n = decimal_injective m n fits (omega (arith, fits, low)) (ap (drop 5) e) in
    absurd (omega (arith, same, low))

pub lacks_next : (n : ℕ) (texts : List Text) → LacksFrom n texts → LacksFrom (n + 1) (texts ++ named n ∷ [])
lacks_next n texts lacks m past fits =
    position_other texts (named n) (named m) (named_apart m n fits (omega (arith, past))) ∙ lacks m (omega (arith, past)) fits

-- a list whose length was found to have a key
pub key_there : {K : Type 0} (keys : ℕ → Option K) (found : Option K) (len : ℕ) (texts list : List Text) → len ≡ length texts → texts ≡ list → found ≡ keys len → IsSome found → IsSome (keys (length list))
key_there keys found len texts list is same at there = subst IsSome (at ∙ ap keys (is ∙ ap length same)) there
