-- Known bytes that grow, call by call.
--
-- A relation between the bytes before and after a call says something only if they are known before it.
-- Then they are known after it too. So the relations of two calls compose, and their parts are joined.
use Rattle.std.proofs.Common.{ℕ, ◌≡◌, ◌+◌, ◌-◌, List, [], ◌∷◌, ◌++◌, length, take, Option, Some, Result, Ok, Err, OnOk, IfErr, ap, sym, subst, ◌∙◌, append_assoc, append-nil, arith}
use Rattle.std.proofs.lemmas.List.{take_all, length-append}
use Rattle.lasso_lines.specs.Stream.{Begins, Grows, OnlyGrows, Stays}
use Rattle.lasso_lines.specs.Answer.{WritesAll, IsAnswerFault}
use Rattle.lasso_lines.specs.declared.fault.RunFault.{RunFault}
use Rattle.lasso_lines.specs.declared.fault.RunFault.TheVariants.{WriteFailed}

-- nothing more is written
pub nothing_more : (known : Option (List ℕ)) (P : List ℕ → Type 0) → P [] → Grows known known P
nothing_more known P p = λ held e. ([], e ∙ ap (λ bs. Some bs) (sym (append-nil held)), p)

pub grows_as : (before after : Option (List ℕ)) (P Q : List ℕ → Type 0) → Grows before after P → ((part : List ℕ) → P part → Q part) → Grows before after Q
grows_as before after P Q grown then = λ held e. let w = grown held e in (w.0, w.1, then w.0 w.2)

pub grows_then : (before mid after : Option (List ℕ)) (P Q R : List ℕ → Type 0) → Grows before mid P → Grows mid after Q → ((p q : List ℕ) → P p → Q q → R (p ++ q)) → Grows before after R
grows_then before mid after P Q R first second join = λ held e.
    let v = first held e in
    let w = second (held ++ v.0) v.1 in
    (v.0 ++ w.0, w.1 ∙ ap (λ bs. Some bs) (append_assoc held v.0 w.0), join v.0 w.0 v.2 w.2)

pub only_grows_then : (before mid after : Option (List ℕ)) → OnlyGrows before mid → OnlyGrows mid after → OnlyGrows before after
only_grows_then before mid after first second = grows_then before mid after (λ _. Unit {0}) (λ _. Unit {0}) (λ _. Unit {0}) first second (λ p q a b. tt)

-- a call that leaves the bytes as they are adds nothing
pub grows_stays : (before mid after : Option (List ℕ)) (P Q : List ℕ → Type 0) → Grows before mid P → Stays mid after → ((part : List ℕ) → P part → Q part) → Grows before after Q
grows_stays before mid after P Q grown stays then = λ held e. let w = grown held e in (w.0, stays (held ++ w.0) w.1, then w.0 w.2)

pub stays_grows : (before mid after : Option (List ℕ)) (P : List ℕ → Type 0) → Stays before mid → Grows mid after P → Grows before after P
stays_grows before mid after P stays grown = λ held e. grown held (stays held e)

-- one more call took the first n of the bytes that were left
pub took_more : (before mid after : Option (List ℕ)) (bytes rest others : List ℕ) (n : ℕ) → Grows before mid (λ part. part ++ rest ≡ bytes) → Grows mid after (λ part. part ≡ take n rest) → take n rest ++ others ≡ rest → Grows before after (λ part. part ++ others ≡ bytes)
took_more before mid after bytes rest others n grown took split =
    grows_then before mid after (λ part. part ++ rest ≡ bytes) (λ part. part ≡ take n rest) (λ part. part ++ others ≡ bytes) grown took (λ p q first second.
    append_assoc p q others ∙ ap (λ bs. p ++ bs) (ap (λ bs. bs ++ others) second ∙ split) ∙ first)

pub begins_split : (p q rest bytes : List ℕ) → p ++ rest ≡ bytes → Begins q rest → Begins (p ++ q) bytes
begins_split p q rest bytes whole b = (b.0, sym whole ∙ ap (λ bs. p ++ bs) b.1 ∙ sym (append_assoc p q b.0))

begins_first : (part front back : List ℕ) → Begins part front → Begins part (front ++ back)
begins_first part front back b = (b.0 ++ back, ap (λ bs. bs ++ back) b.1 ∙ append_assoc part b.0 back)

-- a write failed within the front of some bytes
pub front_fails : (before after : Option (List ℕ)) (front back : List ℕ) (fault : RunFault) → Grows before after (WritesAll front (Err fault)) → Grows before after (WritesAll (front ++ back) (Err fault))
front_fails before after front back fault grown = grows_as before after (WritesAll front (Err fault)) (WritesAll (front ++ back) (Err fault)) grown (λ part w. (w.0, begins_first part front back w.1))

writes_behind : (p q front back : List ℕ) (result : Result (Unit {0}) RunFault) → p ≡ front → WritesAll back result q → WritesAll (front ++ back) result (p ++ q)
writes_behind p q front back (Ok x) is w = ap (λ bs. bs ++ q) is ∙ ap (λ bs. front ++ bs) w
writes_behind p q front back (Err fault) is w = (w.0, begins_split p q back (front ++ back) (ap (λ bs. bs ++ back) is) w.1)

-- the front of some bytes is written, and then the rest
pub front_then : (before mid after : Option (List ℕ)) (front back : List ℕ) (result : Result (Unit {0}) RunFault) → Grows before mid (λ part. part ≡ front) → Grows mid after (WritesAll back result) → Grows before after (WritesAll (front ++ back) result)
front_then before mid after front back result first second =
    grows_then before mid after (λ part. part ≡ front) (WritesAll back result) (WritesAll (front ++ back) result) first second (λ p q is w. writes_behind p q front back result is w)

-- of 21 bytes the last is a space, and the digits end before it
pub front_is : (digits back : List ℕ) (start : ℕ) → back ≡ digits ++ 32 ∷ [] → start + length digits ≡ 20 → take (21 - start) back ≡ digits ++ 32 ∷ []
front_is digits back start is fits = take_all (21 - start) back (let n : length back ≡ length digits + 1 = ap length is ∙ length-append digits (32 ∷ []) in omega arith) ∙ is

-- the front of an answer is its digits and a space
module _ (digits front line : List ℕ) (is : front ≡ digits ++ 32 ∷ []) where
  whole_answer : front ++ (line ++ 10 ∷ []) ≡ digits ++ (32 ∷ (line ++ 10 ∷ []))
  whole_answer = ap (λ bs. bs ++ (line ++ 10 ∷ [])) is ∙ append_assoc digits (32 ∷ []) (line ++ 10 ∷ [])

  -- the front, the line and a line feed are the answer
  pub answer_parts : (before after : Option (List ℕ)) (result : Result (Unit {0}) RunFault) → Grows before after (WritesAll (front ++ (line ++ 10 ∷ [])) result) → Grows before after (WritesAll (digits ++ (32 ∷ (line ++ 10 ∷ []))) result)
  answer_parts before after result grown = subst (λ bs. Grows before after (WritesAll bs result)) whole_answer grown

-- a failed write is a fault of an answer
pub write_fault : (result : Result (Unit {0}) RunFault) → IfErr result (λ fault. fault ≡ WriteFailed) → IfErr result IsAnswerFault
write_fault (Ok x) is = is
write_fault (Err fault) is = subst IsAnswerFault (sym is) tt

-- what is true anyway is true if the result is Ok
pub on_ok : (result : Result (Unit {0}) RunFault) (P : Type 0) → P → OnOk result P
on_ok (Ok x) P p = p
on_ok (Err fault) P p = tt

-- what is true of every fault is true of the result's fault
pub if_err : (result : Result (Unit {0}) RunFault) (P : RunFault → Type 0) → ((fault : RunFault) → P fault) → IfErr result P
if_err (Ok x) P p = tt
if_err (Err fault) P p = p fault
