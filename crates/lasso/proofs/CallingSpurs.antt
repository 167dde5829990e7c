-- What callers of an interner with one of the four key types cite: the lemmas of `Calling` for that type, with its key of a position and
-- the position of its key filled in.
use Rattle.std.proofs.Common.{ℕ, ◌≡◌, ◌↔◌, List, Option, Some, Result, Ok, IfSome, IfOk}
use Rattle.std.specs.Prelude.{slice_get}
use Rattle.lasso_parts.specs.Spurs.{spur_number, spur_at, mini_spur_number, mini_spur_at, micro_spur_number, micro_spur_at, large_spur_number, large_spur_at}
use Rattle.lasso_parts.specs.Texts.{Text, key_of}
use Rattle.lasso_parts.specs.declared.util.LassoError.{LassoError}
use Rattle.lasso_parts.proofs.Spurs.{spur_made, mini_spur_made, micro_spur_made, large_spur_made}
use Rattle.lasso_single.specs.Intern.{InternsIn}
use Rattle.lasso_single.specs.Interner.{InternerView}
use Rattle.lasso.specs.Interning.{InternsAmong}
use Rattle.lasso.proofs.Calling.{answer_resolves, key_answered, keys_tell_texts, texts_stay}

-- ---- of a `Spur`

pub spur_answer_resolves : (old new : InternerView) (text : Text) (reply : Result ℕ LassoError) → InternsIn spur_at old text reply new → IfOk reply (λ key. slice_get new.texts (spur_number key) ≡ Some text)
spur_answer_resolves = answer_resolves spur_at spur_number spur_made

pub spur_texts_stay : (old new : InternerView) (text : Text) (reply : Result ℕ LassoError) → InternsIn spur_at old text reply new → (n : ℕ) (kept : Text) → slice_get old.texts n ≡ Some kept → slice_get new.texts n ≡ Some kept
spur_texts_stay = texts_stay spur_at

pub spur_key_answered : (old new : InternerView) (text : Text) (key : ℕ) → InternsIn spur_at old text (Ok key) new → key_of spur_at new.texts text ≡ Some key
spur_key_answered = key_answered spur_at

pub spur_keys_tell_texts : (old mid new : Option (List Text)) (a b : Text) (k l : ℕ) → IfSome old (λ texts. InternsAmong spur_at texts a (Ok k) mid) → IfSome mid (λ texts. InternsAmong spur_at texts b (Ok l) new) → IfSome old (λ _. (spur_number k ≡ spur_number l) ↔ (a ≡ b))
spur_keys_tell_texts = keys_tell_texts spur_at spur_number spur_made

-- ---- of a `MiniSpur`

pub mini_spur_answer_resolves : (old new : InternerView) (text : Text) (reply : Result ℕ LassoError) → InternsIn mini_spur_at old text reply new → IfOk reply (λ key. slice_get new.texts (mini_spur_number key) ≡ Some text)
mini_spur_answer_resolves = answer_resolves mini_spur_at mini_spur_number mini_spur_made

pub mini_spur_texts_stay : (old new : InternerView) (text : Text) (reply : Result ℕ LassoError) → InternsIn mini_spur_at old text reply new → (n : ℕ) (kept : Text) → slice_get old.texts n ≡ Some kept → slice_get new.texts n ≡ Some kept
mini_spur_texts_stay = texts_stay mini_spur_at

pub mini_spur_key_answered : (old new : InternerView) (text : Text) (key : ℕ) → InternsIn mini_spur_at old text (Ok key) new → key_of mini_spur_at new.texts text ≡ Some key
mini_spur_key_answered = key_answered mini_spur_at

pub mini_spur_keys_tell_texts : (old mid new : Option (List Text)) (a b : Text) (k l : ℕ) → IfSome old (λ texts. InternsAmong mini_spur_at texts a (Ok k) mid) → IfSome mid (λ texts. InternsAmong mini_spur_at texts b (Ok l) new) → IfSome old (λ _. (mini_spur_number k ≡ mini_spur_number l) ↔ (a ≡ b))
mini_spur_keys_tell_texts = keys_tell_texts mini_spur_at mini_spur_number mini_spur_made

-- ---- of a `MicroSpur`

pub micro_spur_answer_resolves : (old new : InternerView) (text : Text) (reply : Result ℕ LassoError) → InternsIn micro_spur_at old text reply new → IfOk reply (λ key. slice_get new.texts (micro_spur_number key) ≡ Some text)
micro_spur_answer_resolves = answer_resolves micro_spur_at micro_spur_number micro_spur_made

pub micro_spur_texts_stay : (old new : InternerView) (text : Text) (reply : Result ℕ LassoError) → InternsIn micro_spur_at old text reply new → (n : ℕ) (kept : Text) → slice_get old.texts n ≡ Some kept → slice_get new.texts n ≡ Some kept
micro_spur_texts_stay = texts_stay micro_spur_at

pub micro_spur_key_answered : (old new : InternerView) (text : Text) (key : ℕ) → InternsIn micro_spur_at old text (Ok key) new → key_of micro_spur_at new.texts text ≡ Some key
micro_spur_key_answered = key_answered micro_spur_at

pub micro_spur_keys_tell_texts : (old mid new : Option (List Text)) (a b : Text) (k l : ℕ) → IfSome old (λ texts. InternsAmong micro_spur_at texts a (Ok k) mid) → IfSome mid (λ texts. InternsAmong micro_spur_at texts b (Ok l) new) → IfSome old (λ _. (micro_spur_number k ≡ micro_spur_number l) ↔ (a ≡ b))
micro_spur_keys_tell_texts = keys_tell_texts micro_spur_at micro_spur_number micro_spur_made

-- ---- of a `LargeSpur`

pub large_spur_answer_resolves : (old new : InternerView) (text : Text) (reply : Result ℕ LassoError) → InternsIn large_spur_at old text reply new → IfOk reply (λ key. slice_get new.texts (large_spur_number key) ≡ Some text)
large_spur_answer_resolves = answer_resolves large_spur_at large_spur_number large_spur_made

pub large_spur_texts_stay : (old new : InternerView) (text : Text) (reply : Result ℕ LassoError) → InternsIn large_spur_at old text reply new → (n : ℕ) (kept : Text) → slice_get old.texts n ≡ Some kept → slice_get new.texts n ≡ Some kept
large_spur_texts_stay = texts_stay large_spur_at

pub large_spur_key_answered : (old new : InternerView) (text : Text) (key : ℕ) → InternsIn large_spur_at old text (Ok key) new → key_of large_spur_at new.texts text ≡ Some key
large_spur_key_answered = key_answered large_spur_at

pub large_spur_keys_tell_texts : (old mid new : Option (List Text)) (a b : Text) (k l : ℕ) → IfSome old (λ texts. InternsAmong large_spur_at texts a (Ok k) mid) → IfSome mid (λ texts. InternsAmong large_spur_at texts b (Ok l) new) → IfSome old (λ _. (large_spur_number k ≡ large_spur_number l) ↔ (a ≡ b))
large_spur_keys_tell_texts = keys_tell_texts large_spur_at large_spur_number large_spur_made
