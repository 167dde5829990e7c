-- Keys of words in an interner that threads share.
use Rattle.std.specs.Prelude.{◌≡◌, ◌⊎◌, ℕ, List, ◌∷◌, ◌++◌, map, Option, Some, Result, Err, MatchResult, Vec, slice_get}
use Rattle.lasso.specs.Texts.{Text}
use Rattle.lasso.specs.LassoErrorKind.{LassoErrorKind}
use Rattle.lasso.specs.LassoErrorKind.TheVariants.{FailedAllocation}
use Rattle.lasso.specs.History.{History, Totals, totals}
use Rattle.lasso.specs.Notes.{history}
use Rattle.lasso.specs.Replies.{Copied, Intern, Interned, MayReply}
use Rattle.lasso.specs.Views.{InternerId, SnapshotView}

-- each key stands for its word: the text at the key's position in the list
abbrev pub Resolve : {K : Type 0} → (K → ℕ) → List Text → List K → List Text → Type 0
Resolve number list keys words = map (λ key. slice_get list (number key)) keys ≡ map Some words

-- One of the words may be refused with this error at some point of a history. Each word before it has a key in the list that
-- the history leads to.
pub record RefusedWord {K : Type 0} (number : K → ℕ) (key_at : ℕ → Option K) (opening : Totals) (past : History) (words : List Text) (error : LassoErrorKind) : Type 0 where
  pub before : List Text
  pub word : Text
  pub after : List Text
  pub words_are : words ≡ before ++ word ∷ after
  pub keys : List K
  pub stand : Resolve number (totals opening past).texts keys before
  pub front : History
  pub back : History
  pub past_is : front ++ back ≡ past
  pub refused : MayReply key_at (totals opening front) (Intern Copied word) (Interned (Err error))

-- memory ran out, or one of the words was refused
abbrev pub IsRefusalOf : {K : Type 0} → (K → ℕ) → (ℕ → Option K) → Totals → History → List Text → LassoErrorKind → Type 0
IsRefusalOf number key_at opening past words error = (error ≡ FailedAllocation) ⊎ RefusedWord number key_at opening past words error

-- the keys stand for the words in the list that the history leads to, or this explains the error
abbrev pub AreKeysOf : {K A : Type 0} → (K → ℕ) → (ℕ → Option K) → Totals → History → List Text → Result (Vec K A) LassoErrorKind → Type 0
AreKeysOf number key_at opening past words outcome =
    MatchResult outcome (λ keys. Resolve number (totals opening past).texts keys.items words) (λ error. IsRefusalOf number key_at opening past words error)

-- what was seen of this interner, in whose list the keys stand for the words, or what explains the error
abbrev pub IsShareOf : {K A : Type 0} → (K → ℕ) → (ℕ → Option K) → InternerId → List Text → SnapshotView → Result (Vec K A) LassoErrorKind → Type 0
IsShareOf number key_at of words known outcome = (known.of ≡ of) × AreKeysOf number key_at of.opening (history known.notes) words outcome

-- if the first outcome is of some words and the second of others, the third is of all of these words, in this order
abbrev pub JoinsKeys : {K A : Type 0} → (K → ℕ) → (ℕ → Option K) → Result (Vec K A) LassoErrorKind → Result (Vec K A) LassoErrorKind → Result (Vec K A) LassoErrorKind → Type 0
JoinsKeys number key_at first second both =
    (opening : Totals) (past : History) (front back : List Text)
    → AreKeysOf number key_at opening past front first → AreKeysOf number key_at opening past back second → AreKeysOf number key_at opening past (front ++ back) both

-- if the first share is of some words and the second of others, the third is of all of these words, in this order
abbrev pub JoinsShares : {K A : Type 0} → (K → ℕ) → (ℕ → Option K) → InternerId → SnapshotView → Result (Vec K A) LassoErrorKind → SnapshotView → Result (Vec K A) LassoErrorKind → SnapshotView → Result (Vec K A) LassoErrorKind → Type 0
JoinsShares number key_at of known keys known' keys' all all_keys =
    (front back : List Text) → IsShareOf number key_at of front known keys → IsShareOf number key_at of back known' keys' → IsShareOf number key_at of (front ++ back) all all_keys
