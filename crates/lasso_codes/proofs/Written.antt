-- Known bytes of a writer that grow, one call after the other: the parts join.
use Rattle.std.proofs.Common.{ℕ, ◌≡◌, List, [], ◌++◌, take, Option, Some, None, Result, Ok, Err, IfErr, sym, ap, ◌∙◌, append_assoc}
use Rattle.std.specs.Io.KnownBytes.{Appends, Keeps}
use Rattle.std.proofs.lemmas.List.{append-nil}
use Rattle.lasso_codes.specs.Errors.{IsWriteError}
use Rattle.lasso_codes.specs.Streams.{Begins, Writes, WritesAll}
use Rattle.lasso_codes.specs.declared.error.RunError.{RunError}

pub appends_none : (known : Option (List ℕ)) → Appends known known []
appends_none None = tt
appends_none (Some bytes) = sym (append-nil bytes)

pub appends_then : (before mid after : Option (List ℕ)) (part more : List ℕ) → Appends before mid part → Appends mid after more → Appends before after (part ++ more)
appends_then None mid after part more first second = tt
appends_then (Some bytes) None after part more first second = absurd first
appends_then (Some bytes) (Some held) None part more first second = absurd second
appends_then (Some bytes) (Some held) (Some all) part more first second = second ∙ ap (λ bs. bs ++ more) first ∙ append_assoc bytes part more

pub appends_kept : (before mid after : Option (List ℕ)) (part : List ℕ) → Appends before mid part → Keeps mid after → Appends before after part
appends_kept None mid after part first kept = tt
appends_kept (Some bytes) None after part first kept = absurd first
appends_kept (Some bytes) (Some held) None part first kept = absurd kept
appends_kept (Some bytes) (Some held) (Some all) part first kept = kept ∙ first

-- nothing is written
pub writes_none : (known : Option (List ℕ)) (P : List ℕ → Type 0) → P [] → Writes known known P
writes_none known P p = ([], appends_none known, p)

pub writes_as : (before after : Option (List ℕ)) (P Q : List ℕ → Type 0) → Writes before after P → ((part : List ℕ) → P part → Q part) → Writes before after Q
writes_as before after P Q w then = (w.0, w.1, then w.0 w.2)

pub writes_then : (before mid after : Option (List ℕ)) (P Q R : List ℕ → Type 0) → Writes before mid P → Writes mid after Q → ((part more : List ℕ) → P part → Q more → R (part ++ more)) → Writes before after R
writes_then before mid after P Q R v w join = (v.0 ++ w.0, appends_then before mid after v.0 w.0 v.1 w.1, join v.0 w.0 v.2 w.2)

pub writes_kept : (before mid after : Option (List ℕ)) (P Q : List ℕ → Type 0) → Writes before mid P → Keeps mid after → ((part : List ℕ) → P part → Q part) → Writes before after Q
writes_kept before mid after P Q w kept then = (w.0, appends_kept before mid after w.0 w.1 kept, then w.0 w.2)

-- all bytes are written, and the last flush may fail
pub all_written : (bytes part : List ℕ) (result : Result (Unit {0}) RunError) → part ≡ bytes → IfErr result IsWriteError → WritesAll bytes result part
all_written bytes part (Ok x) is flushed = is
all_written bytes part (Err error) is flushed = (flushed, ([], sym is ∙ sym (append-nil part)))

-- ---- bytes that several calls take

-- these bytes are written, and the rest is left
abbrev pub HasLeft : List ℕ → List ℕ → List ℕ → Type 0
HasLeft bytes rest part = part ++ rest ≡ bytes

begins_split : (part more rest bytes : List ℕ) → part ++ rest ≡ bytes → Begins more rest → Begins (part ++ more) bytes
begins_split part more rest bytes whole b = (b.0, sym whole ∙ ap (λ bs. part ++ bs) b.1 ∙ sym (append_assoc part more b.0))

pub left_more : (bytes rest others part more : List ℕ) (n : ℕ) → HasLeft bytes rest part → more ≡ take n rest → take n rest ++ others ≡ rest → HasLeft bytes others (part ++ more)
left_more bytes rest others part more n so_far taken split =
    append_assoc part more others ∙ ap (λ bs. part ++ bs) (ap (λ bs. bs ++ others) taken ∙ split) ∙ so_far

pub begins_first : (part front back : List ℕ) → Begins part front → Begins part (front ++ back)
begins_first part front back b = (b.0 ++ back, ap (λ bs. bs ++ back) b.1 ∙ append_assoc part b.0 back)

-- the front of some bytes is written, and then the others, or a beginning of them
pub front_then : (part more front back : List ℕ) (result : Result (Unit {0}) RunError) → part ≡ front → WritesAll back result more → WritesAll (front ++ back) result (part ++ more)
front_then part more front back (Ok x) is w = ap (λ bs. bs ++ more) is ∙ ap (λ bs. front ++ bs) w
front_then part more front back (Err error) is w = (w.0, begins_split part more back (front ++ back) (ap (λ bs. bs ++ back) is) w.1)

pub front_fails : (part front back : List ℕ) (error : RunError) → WritesAll front (Err error) part → WritesAll (front ++ back) (Err error) part
front_fails part front back error w = (w.0, begins_first part front back w.1)

-- the same of known bytes that grow
pub writes_front : (before mid after : Option (List ℕ)) (front back : List ℕ) (result : Result (Unit {0}) RunError) → Writes before mid (λ part. part ≡ front) → Writes mid after (WritesAll back result) → Writes before after (WritesAll (front ++ back) result)
writes_front before mid after front back result v w =
    writes_then before mid after (λ part. part ≡ front) (WritesAll back result) (WritesAll (front ++ back) result) v w (λ part more is x. front_then part more front back result is x)

pub writes_front_fails : (before after : Option (List ℕ)) (front back : List ℕ) (error : RunError) → Writes before after (WritesAll front (Err error)) → Writes before after (WritesAll (front ++ back) (Err error))
writes_front_fails before after front back error v =
    writes_as before after (WritesAll front (Err error)) (WritesAll (front ++ back) (Err error)) v (λ part w. front_fails part front back error w)
