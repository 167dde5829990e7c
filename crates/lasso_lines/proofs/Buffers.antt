-- What a buffered writer does to known bytes.
--
-- Its bytes are those in the inner writer, and then those in its buffer. If the inner bytes are not known,
-- nothing is said.
use Rattle.std.proofs.Common.{ℕ, ◌≡◌, ◌-◌, ◌≤◌, List, ◌++◌, length, take, drop, Option, Some, None, ap, subst, ◌∙◌, append_assoc}
use Rattle.std.proofs.lemmas.List.{take-append-drop, take_rest}
use Rattle.std.specs.Io.KnownBytes.{Appends}
use Rattle.lasso_lines.specs.Stream.{OnlyGrows, Stays, written}

pub grows_by : (known known' : Option (List ℕ)) (bs : List ℕ) → Appends known known' bs → OnlyGrows known known'
grows_by None known' bs appends = λ held e. cc
grows_by (Some xs) None bs appends = absurd appends
grows_by (Some xs) (Some ys) bs appends = λ held e. let same : xs ≡ held = cc in (bs, ap (λ b. Some b) (appends ∙ ap (λ b. b ++ bs) same), tt)

-- the inner writer takes the first n pending bytes
pub sends_front : (known known' : Option (List ℕ)) (pending left : List ℕ) (n : ℕ) → Appends known known' (take n pending) → left ≡ drop n pending → Stays (written known (Some pending)) (written known' (Some left))
sends_front None known' pending left n appends is = λ held e. cc
sends_front (Some xs) None pending left n appends is = absurd appends
sends_front (Some xs) (Some ys) pending left n appends is = λ held e.
    let same : xs ++ pending ≡ held = cc in
    ap (λ b. Some b) (ap (λ b. b ++ left) appends ∙ append_assoc xs (take n pending) left ∙ ap (λ b. xs ++ b) (ap (λ b. take n pending ++ b) is ∙ take-append-drop n pending) ∙ same)

pub sends_part : (known known' : Option (List ℕ)) (pending handed left : List ℕ) (n : ℕ) → handed ≡ pending → Appends known known' (take n handed) → left ≡ drop n pending → Stays (written known (Some pending)) (written known' (Some left))
sends_part known known' pending handed left n is appends rest = sends_front known known' pending left n (subst (λ bs. Appends known known' (take n bs)) is appends) rest

pub stays_then : (before mid after : Option (List ℕ)) → Stays before mid → Stays mid after → Stays before after
stays_then before mid after first second = λ held e. second held (first held e)

-- the pending bytes, as the code slices them
pub cut_rest : (sent : ℕ) (bytes buffer : List ℕ) → sent ≤ length bytes → bytes ≡ buffer → take (length bytes - sent) (drop sent bytes) ≡ drop sent buffer
cut_rest sent bytes buffer small same = take_rest bytes sent ∙ ap (drop sent) same
