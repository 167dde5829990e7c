-- The first line of bytes, as a reader returns it: up to and including the first line feed.
--
-- If the bytes have no line feed, all of them are returned. Else they are a line, the first line feed and the
-- rest, and the line and the line feed are returned. In both cases the line is what is returned, without a
-- line feed at its end.
use Rattle.std.proofs.Common.{ℕ, zero, suc, ◌≡◌, ◌+◌, ◌-◌, ◌<◌, ◌≤◌, ◌==◌, Bool, true, false, cond, List, [], ◌∷◌, ◌++◌, length, get_or, Option, Some, None, option_map, refl, sym, ap, subst, ◌∙◌, arith, ◌⊎◌, inl, inr}
use Rattle.std.specs.Prelude.{IfSome}
use Rattle.std.specs.Io.{StopsAt}
use Rattle.std.specs.Io.BufRead.{take_through, drop_through}
use Rattle.std.specs.Io.KnownBytes.{Consumes}
use Rattle.std.proofs.lemmas.Bool.Decides.{nat_tests}
use Rattle.std.proofs.lemmas.List.{length_push}
use Rattle.lasso_input.specs.Lines.{lines_of, is_line_feed, NoFeed}
use Rattle.lasso_input.proofs.FirstLines.{lines_cut, lines_end}
use Rattle.lasso_codes.specs.Streams.{cut_line, CutsLine, IsFed, LosesPart, TakesLine}
use Rattle.lasso_codes.specs.declared.input.Cut.{Cut}
use Rattle.lasso_codes.specs.declared.input.Cut.TheVariants.{Whole, Part, End}

-- what is returned of bytes, and what is left
pub data Gives (bytes : List ℕ) : Type 0 where
  ended : (front rest : List ℕ) → NoFeed front → bytes ≡ front ++ 10 ∷ rest → take_through 10 bytes ≡ front ++ 10 ∷ [] → drop_through 10 bytes ≡ rest → Gives bytes
  unended : NoFeed bytes → take_through 10 bytes ≡ bytes → drop_through 10 bytes ≡ [] → Gives bytes

gives_more : (b : ℕ) (bytes : List ℕ) → is_line_feed b ≡ false → Gives bytes → Gives (b ∷ bytes)
gives_more b bytes other (ended front rest none is taken left) = ended (b ∷ front) rest (other, none) (ap (λ bs. b ∷ bs) is)
    (ap (λ t. cond t (b ∷ []) (b ∷ take_through 10 bytes)) other ∙ ap (λ bs. b ∷ bs) taken) (ap (λ t. cond t bytes (drop_through 10 bytes)) other ∙ left)
gives_more b bytes other (unended none taken left) = unended (other, none)
    (ap (λ t. cond t (b ∷ []) (b ∷ take_through 10 bytes)) other ∙ ap (λ bs. b ∷ bs) taken) (ap (λ t. cond t bytes (drop_through 10 bytes)) other ∙ left)

gives_here : (b : ℕ) (bytes : List ℕ) → is_line_feed b ≡ true → Gives (b ∷ bytes)
gives_here b bytes feed =
    let is : b ≡ 10 = grind (arith, nat_tests) in
    ended [] bytes tt (ap (λ x. x ∷ bytes) is)
    (ap (λ t. cond t (b ∷ []) (b ∷ take_through 10 bytes)) feed ∙ ap (λ x. x ∷ []) is) (ap (λ t. cond t bytes (drop_through 10 bytes)) feed)

gives_one : (b : ℕ) (bytes : List ℕ) (feed : Bool) → is_line_feed b ≡ feed → Gives bytes → Gives (b ∷ bytes)
gives_one b bytes true e rest = gives_here b bytes e
gives_one b bytes false e rest = gives_more b bytes e rest

pub gives : (bytes : List ℕ) → Gives bytes
gives [] = unended tt refl refl
gives (b ∷ bytes) = gives_one b bytes (is_line_feed b) refl (gives bytes)

lines_open : (bytes : List ℕ) → 0 < length bytes → NoFeed bytes → lines_of bytes ≡ bytes ∷ []
lines_open [] some none = absurd (omega arith)
lines_open (b ∷ bytes) some none = lines_end b bytes none

line_of : (bytes got line rest : List ℕ) → Gives bytes → got ≡ take_through 10 bytes → rest ≡ drop_through 10 bytes → 0 < length got → ((front : List ℕ) → got ≡ front ++ 10 ∷ [] → line ≡ front) → (NoFeed got → line ≡ got) → (lines_of bytes ≡ line ∷ lines_of rest) × IsFed bytes line rest
line_of bytes got line rest (ended front back none is taken left) got_is rest_is some at_end at_open =
    let line_is : line ≡ front = at_end front (got_is ∙ taken) in
    let rest_are : rest ≡ back = rest_is ∙ left in
    rw (line_is, rest_are) (ap lines_of is ∙ lines_cut front back none, inl is)
line_of bytes got line rest (unended none taken left) got_is rest_is some at_end at_open =
    let whole : got ≡ bytes = got_is ∙ taken in
    let line_is : line ≡ bytes = at_open (subst NoFeed (sym whole) none) ∙ whole in
    let rest_are : rest ≡ [] = rest_is ∙ left in
    let many : 0 < length bytes = subst (λ bs. 0 < length bs) whole some in
    rw (line_is, rest_are) (lines_open bytes many none, inr refl)

-- a line was read
pub takes_line : (before after : Option (List ℕ)) (held got line : List ℕ) → held ≡ [] → IfSome before (λ bytes. got ≡ held ++ take_through 10 bytes) → IfSome before (λ bytes. after ≡ Some (drop_through 10 bytes)) → 0 < length got → ((front : List ℕ) → got ≡ front ++ 10 ∷ [] → line ≡ front) → (NoFeed got → line ≡ got) → TakesLine before after true line
takes_line None after held got line none got_is after_is some at_end at_open = λ bytes e. absurd (cc)
takes_line (Some known) after held got line none got_is after_is some at_end at_open = λ bytes e.
    let same : known ≡ bytes = cc in
    let taken : got ≡ take_through 10 bytes = subst (λ bs. got ≡ held ++ take_through 10 bs) same got_is ∙ ap (λ hs. hs ++ take_through 10 bytes) none in
    let left : after ≡ Some (drop_through 10 bytes) = subst (λ bs. after ≡ Some (drop_through 10 bs)) same after_is in
    let cut = line_of bytes got line (drop_through 10 bytes) (gives bytes) taken refl some at_end at_open in
    (drop_through 10 bytes, left, cut.0, cut.1)

-- a read that failed took some bytes
pub loses_part : (before mid after : Option (List ℕ)) (got : List ℕ) → Consumes before mid got → StopsAt got 10 → after ≡ mid → LosesPart before after
loses_part None mid after got taken stops kept = λ bytes e. absurd (cc)
loses_part (Some known) None after got taken stops kept = absurd taken
loses_part (Some known) (Some left) after got taken stops kept = λ bytes e.
    let same : known ≡ bytes = cc in (got, left, kept, sym same ∙ taken, stops)

-- what a call says of the lines, by its result
pub no_line : (before after : Option (List ℕ)) (is_line : Bool) (line : List ℕ) → TakesLine before after is_line line → is_line ≡ false → TakesLine before after false line
no_line before after is_line line taken e = subst (λ b. TakesLine before after b line) e taken

pub one_line : (before after : Option (List ℕ)) (is_line : Bool) (line : List ℕ) → TakesLine before after is_line line → is_line ≡ true → TakesLine before after true line
one_line before after is_line line taken e = subst (λ b. TakesLine before after b line) e taken

-- something was returned
pub some_given : (len held n many : ℕ) → len ≡ held + n → len ≡ many → (n ≡ 0 → ⊥) → 0 < many
some_given len held n many is count some = omega (arith, is, count, some)

-- ---- a line that a line feed ends

-- a line without a line feed is cut off at the line feed after it
pub cut_fed : (line rest : List ℕ) → NoFeed line → cut_line (line ++ 10 ∷ rest) ≡ Some (line, rest)
cut_fed [] rest none = refl
cut_fed (b ∷ line) rest none =
    let stop : Option (List ℕ × List ℕ) = Some ([], line ++ 10 ∷ rest) in
    let onto : List ℕ × List ℕ → List ℕ × List ℕ = λ cut. (b ∷ cut.0, cut.1) in
    ap (λ t. cond t stop (option_map onto (cut_line (line ++ 10 ∷ rest)))) none.0 ∙ ap (option_map onto) (cut_fed line rest none.1)

pub cut_open : (bytes : List ℕ) → NoFeed bytes → cut_line bytes ≡ None
cut_open [] none = refl
cut_open (b ∷ bytes) none =
    let stop : Option (List ℕ × List ℕ) = Some ([], bytes) in
    let onto : List ℕ × List ℕ → List ℕ × List ℕ = λ cut. (b ∷ cut.0, cut.1) in
    ap (λ t. cond t stop (option_map onto (cut_line bytes))) none.0 ∙ ap (option_map onto) (cut_open bytes none.1)

-- a line is shorter than what was returned exactly if it ended with a line feed
whole_of : (bytes got line : List ℕ) → Gives bytes → got ≡ take_through 10 bytes → ((front : List ℕ) → got ≡ front ++ 10 ∷ [] → line ≡ front) → (NoFeed got → line ≡ got) → length line < length got → cut_line bytes ≡ Some (line, drop_through 10 bytes)
whole_of bytes got line (ended front rest none is taken left) got_is at_end at_open shorter =
    let line_is : line ≡ front = at_end front (got_is ∙ taken) in
    rw (line_is, left) (ap cut_line is ∙ cut_fed front rest none)
whole_of bytes got line (unended none taken left) got_is at_end at_open shorter =
    let whole : got ≡ bytes = got_is ∙ taken in
    let same : length line ≡ length got = ap length (at_open (subst NoFeed (sym whole) none)) in
    absurd (omega (arith, same, shorter))

part_of : (bytes got line : List ℕ) → Gives bytes → got ≡ take_through 10 bytes → ((front : List ℕ) → got ≡ front ++ 10 ∷ [] → line ≡ front) → 0 < length got → length got ≤ length line → (drop_through 10 bytes ≡ []) × (0 < length bytes) × (cut_line bytes ≡ None)
part_of bytes got line (ended front rest none is taken left) got_is at_end some longer =
    let line_is : length line ≡ length front = ap length (at_end front (got_is ∙ taken)) in
    let count : length got ≡ length front + 1 = ap length (got_is ∙ taken) ∙ length_push front 10 in
    absurd (omega (arith, line_is, count, longer))
part_of bytes got line (unended none taken left) got_is at_end some longer =
    (left, subst (λ bs. 0 < length bs) (got_is ∙ taken) some, cut_open bytes none)

pub cuts_whole : (before after : Option (List ℕ)) (held got line : List ℕ) → held ≡ [] → IfSome before (λ bytes. got ≡ held ++ take_through 10 bytes) → IfSome before (λ bytes. after ≡ Some (drop_through 10 bytes)) → ((front : List ℕ) → got ≡ front ++ 10 ∷ [] → line ≡ front) → (NoFeed got → line ≡ got) → length line < length got → CutsLine before after Whole line
cuts_whole None after held got line none got_is after_is at_end at_open shorter = λ bytes e. absurd (cc)
cuts_whole (Some known) after held got line none got_is after_is at_end at_open shorter = λ bytes e.
    let same : known ≡ bytes = cc in
    let taken : got ≡ take_through 10 bytes = subst (λ bs. got ≡ held ++ take_through 10 bs) same got_is ∙ ap (λ hs. hs ++ take_through 10 bytes) none in
    let left : after ≡ Some (drop_through 10 bytes) = subst (λ bs. after ≡ Some (drop_through 10 bs)) same after_is in
    (drop_through 10 bytes, left, whole_of bytes got line (gives bytes) taken at_end at_open shorter)

pub cuts_part : (before after : Option (List ℕ)) (held got line : List ℕ) → held ≡ [] → IfSome before (λ bytes. got ≡ held ++ take_through 10 bytes) → IfSome before (λ bytes. after ≡ Some (drop_through 10 bytes)) → ((front : List ℕ) → got ≡ front ++ 10 ∷ [] → line ≡ front) → 0 < length got → length got ≤ length line → CutsLine before after Part line
cuts_part None after held got line none got_is after_is at_end some longer = λ bytes e. absurd (cc)
cuts_part (Some known) after held got line none got_is after_is at_end some longer = λ bytes e.
    let same : known ≡ bytes = cc in
    let taken : got ≡ take_through 10 bytes = subst (λ bs. got ≡ held ++ take_through 10 bs) same got_is ∙ ap (λ hs. hs ++ take_through 10 bytes) none in
    let left : after ≡ Some (drop_through 10 bytes) = subst (λ bs. after ≡ Some (drop_through 10 bs)) same after_is in
    let told = part_of bytes got line (gives bytes) taken at_end some longer in
    (left ∙ ap (λ bs. Some bs) told.0, told.1, told.2)

-- what a call says of the line, by its result
pub cut_as : (before after : Option (List ℕ)) (cut other : Cut) (line : List ℕ) → CutsLine before after cut line → cut ≡ other → CutsLine before after other line
cut_as before after cut other line cuts e = subst (λ c. CutsLine before after c line) e cuts

-- there was no line that ends with a line feed
pub no_cut : (before after : Option (List ℕ)) (cut : Cut) (line : List ℕ) → CutsLine before after cut line → (cut ≡ Part) ⊎ (cut ≡ End) → (bytes : List ℕ) → before ≡ Some bytes → (after ≡ Some []) × (cut_line bytes ≡ None)
no_cut before after cut line cuts (inl is) bytes e = let told = cut_as before after cut Part line cuts is bytes e in (told.0, told.2)
no_cut before after cut line cuts (inr is) bytes e = let told = cut_as before after cut End line cuts is bytes e in (told.0, ap cut_line told.1)

-- ---- the line feed at the end of what is given

no_feed_at : (bytes : List ℕ) (k : ℕ) → NoFeed bytes → k < length bytes → get_or bytes k 0 == 10 ≡ false
no_feed_at [] k none small = absurd (omega arith)
no_feed_at (b ∷ bytes) zero none small = none.0
no_feed_at (b ∷ bytes) (suc k) none small = no_feed_at bytes k none.1 (omega arith)

-- bytes without a line feed do not end with one
pub no_feed_last : (bytes : List ℕ) (n : ℕ) → NoFeed bytes → 0 < n → n ≡ length bytes → get_or bytes (n - 1) 0 ≡ 10 → ⊥
no_feed_last bytes n none some is feed =
    let other = no_feed_at bytes (n - 1) none (omega arith) in
    let same : get_or bytes (n - 1) 0 == 10 ≡ true = grind (arith, nat_tests) in cc
