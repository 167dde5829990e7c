-- Codes of texts in a list that grows.
--
-- A text that is found at a position is found there still when another goes last. So codes stay those of
-- their texts, and the code of one more text goes after them. And where a text is found, there it is: codes
-- stand for their texts.
use Rattle.std.proofs.Common.{ℕ, zero, suc, ◌≡◌, ◌+◌, List, [], ◌∷◌, ◌++◌, map, length, Bool, true, false, cond, Option, Some, refl, sym, ap, subst, ◌∙◌, arith, append_assoc}
use Rattle.std.specs.Prelude.{slice_get}
use Rattle.std.proofs.lemmas.Bool.Decides.{nat_tests}
use Rattle.std.proofs.lemmas.List.{append-nil, map_push, length-map, length_push, length-append}
use Rattle.std.proofs.lemmas.List.Folds.{position_or_len_push}
use Rattle.std.proofs.lemmas.Option.{slice_get_within}
use mathlib.Core.List.{IsPrefix}
use Rattle.lasso_parts.proofs.IndexLaws.{slice_get-append_left}
use Rattle.lasso_parts.proofs.TextLemmas.{position_here}
use Rattle.lasso_parts.specs.Texts.{Text, position_of}
use Rattle.std.specs.Str.{bytes_eq}
use Rattle.lasso_single.specs.Codes.{AreCodes, AddsCodes, StandFor, DecodingGivesTexts, CodesTellTexts, RewritingKeepsTexts}

-- a text that is found stays where it is found
pub position_stays : (list : List Text) (last text : Text) (n : ℕ) → position_of list text ≡ Some n → position_of (list ++ last ∷ []) text ≡ Some n
position_stays list last text n e = grind (arith, nat_tests, position_or_len_push (λ t. bytes_eq t text) list last, length_push list last)

-- ---- lists whose elements are all there

-- what is there for each element is there where more is there
map_some_more : {X Y : Type 0} (f g : X → Option Y) → ((x : X) (y : Y) → f x ≡ Some y → g x ≡ Some y) → (xs : List X) (ys : List Y) → map f xs ≡ map Some ys → map g xs ≡ map Some ys
map_some_more f g more [] ys e = e
map_some_more f g more (x ∷ xs) [] e = cc
map_some_more f g more (x ∷ xs) (y ∷ ys) e =
    let here : g x ≡ Some y = more x y (cc) in
    let others : map g xs ≡ map Some ys = map_some_more f g more xs ys (cc) in
    cc

-- and back, where each element is found from what is there
map_some_back : {X Y : Type 0} (f : X → Option Y) (g : Y → Option X) → ((x : X) (y : Y) → f x ≡ Some y → g y ≡ Some x) → (xs : List X) (ys : List Y) → map f xs ≡ map Some ys → map g ys ≡ map Some xs
map_some_back f g back [] [] e = refl
map_some_back f g back [] (y ∷ ys) e = cc
map_some_back f g back (x ∷ xs) [] e = cc
map_some_back f g back (x ∷ xs) (y ∷ ys) e =
    let here : g y ≡ Some x = back x y (cc) in
    let others : map g ys ≡ map Some xs = map_some_back f g back xs ys (cc) in
    cc

pub map_some_push : {X Y : Type 0} (f : X → Option Y) (xs : List X) (ys : List Y) (x : X) (y : Y) → map f xs ≡ map Some ys → f x ≡ Some y → map f (xs ++ x ∷ []) ≡ map Some (ys ++ y ∷ [])
map_some_push f xs ys x y e here = rw (map_push f xs x, map_push Some ys y) cc

pub map_some_both : {X Y : Type 0} (f : X → Option Y) (xs xs' : List X) (ys ys' : List Y) → map f xs ≡ map Some ys → map f xs' ≡ map Some ys' → map f (xs ++ xs') ≡ map Some (ys ++ ys')
map_some_both f [] xs' [] ys' e e' = e'
map_some_both f [] xs' (y ∷ ys) ys' e e' = cc
map_some_both f (x ∷ xs) xs' [] ys' e e' = cc
map_some_both f (x ∷ xs) xs' (y ∷ ys) ys' e e' =
    let others : map f (xs ++ xs') ≡ map Some (ys ++ ys') = map_some_both f xs xs' ys ys' (cc) e' in
    cc

pub map_some_length : {X Y : Type 0} (f : X → Option Y) (xs : List X) (ys : List Y) → map f xs ≡ map Some ys → length xs ≡ length ys
map_some_length f xs ys e = sym (length-map xs f) ∙ ap length e ∙ length-map ys Some

-- ---- codes

-- codes stay those of their texts when another text goes last, or none
pub codes_stay : (list : List Text) (last : Text) (there : Bool) (texts : List Text) (codes : List ℕ) → AreCodes list texts codes → AreCodes (cond there list (list ++ last ∷ [])) texts codes
codes_stay list last true texts codes are = are
codes_stay list last false texts codes are = map_some_more (position_of list) (position_of (list ++ last ∷ [])) (λ t n e. position_stays list last t n e) texts codes are

-- or any number of texts
pub codes_longer : (list more texts : List Text) (codes : List ℕ) → AreCodes list texts codes → AreCodes (list ++ more) texts codes
codes_longer list [] texts codes are = subst (λ (ts : List Text). AreCodes ts texts codes) (sym (append-nil list)) are
codes_longer list (last ∷ more) texts codes are =
    subst (λ (ts : List Text). AreCodes ts texts codes) (append_assoc list (last ∷ []) more) (codes_longer (list ++ last ∷ []) more texts codes (codes_stay list last false texts codes are))

-- and codes are those of any list that theirs begins
pub codes_past : (list later texts : List Text) (codes : List ℕ) → IsPrefix list later → AreCodes list texts codes → AreCodes later texts codes
codes_past list later texts codes more are = subst (λ (ts : List Text). AreCodes ts texts codes) more.1 (codes_longer list more.0 texts codes are)

-- one code more
pub adds_push : (list texts : List Text) (text : Text) (code : ℕ) (before codes after : List ℕ) → AddsCodes list texts before codes → position_of list text ≡ Some code → after ≡ codes ++ code ∷ [] → AddsCodes list (texts ++ text ∷ []) before after
adds_push list texts text code before codes after added here is =
    (added.0 ++ code ∷ [], is ∙ ap (λ cs. cs ++ code ∷ []) added.1 ∙ append_assoc before added.0 (code ∷ []), map_some_push (position_of list) texts added.0 text code added.2 here)

-- how many were added
pub adds_length : (list texts : List Text) (before after : List ℕ) → AddsCodes list texts before after → length after ≡ length before + length texts
adds_length list texts before after added =
    omega (arith, ap length added.1, length-append before added.0, map_some_length (position_of list) texts added.0 added.2)

-- codes stand for their texts
pub codes_stand : (list texts : List Text) (codes : List ℕ) → AreCodes list texts codes → StandFor list codes texts
codes_stand list texts codes are = map_some_back (position_of list) (slice_get list) (λ t n e. position_here list t n e) texts codes are

-- and still do when texts are appended to the list
pub stand_longer : (list more texts : List Text) (codes : List ℕ) → StandFor list codes texts → StandFor (list ++ more) codes texts
stand_longer list more texts codes stand =
    map_some_more (slice_get list) (slice_get (list ++ more)) (λ n t e. slice_get-append_left list more n (slice_get_within list n t e) ∙ e) codes texts stand

-- ---- the laws

map_some_same : {Y : Type 0} (xs ys : List Y) → map {B = Option Y} Some xs ≡ map Some ys → xs ≡ ys
map_some_same [] [] e = refl
map_some_same [] (y ∷ ys) e = cc
map_some_same (x ∷ xs) [] e = cc
map_some_same (x ∷ xs) (y ∷ ys) e =
    let others : xs ≡ ys = map_some_same xs ys (cc) in
    cc

pub decoding_gives_texts_lem : DecodingGivesTexts
decoding_gives_texts_lem list more texts decoded codes are =
    let stand = stand_longer list more texts codes (codes_stand list texts codes are) in
    (λ decodes. map_some_same decoded texts (sym decodes ∙ stand), λ same. subst (λ ts. StandFor (list ++ more) codes ts) (sym same) stand)

pub map_some_at : {X Y : Type 0} (f : X → Option Y) (xs : List X) (ys : List Y) (n : ℕ) (x : X) (y : Y) → map f xs ≡ map Some ys → slice_get xs n ≡ Some x → slice_get ys n ≡ Some y → f x ≡ Some y
map_some_at f [] ys n x y e here there = cc
map_some_at f (x' ∷ xs) [] n x y e here there = cc
map_some_at f (x' ∷ xs) (y' ∷ ys) zero x y e here there = cc
map_some_at f (x' ∷ xs) (y' ∷ ys) (suc n) x y e here there = map_some_at f xs ys n x y (cc) here there

pub codes_tell_texts_lem : CodesTellTexts
codes_tell_texts_lem list texts codes i j code other text that are text_at code_at that_at other_at =
    let here : position_of list text ≡ Some code = map_some_at (position_of list) texts codes i text code are text_at code_at in
    let there : position_of list that ≡ Some other = map_some_at (position_of list) texts codes j that other are that_at other_at in
    let stands : slice_get list code ≡ Some text = position_here list text code here in
    let stands' : slice_get list other ≡ Some that = position_here list that other there in (
      (λ same. let one : slice_get list other ≡ Some text = subst (λ n. slice_get list n ≡ Some text) same stands in cc),
      (λ same. let one : position_of list that ≡ Some code = subst (λ (t : Text). position_of list t ≡ Some code) same here in cc),
    )

pub rewriting_keeps_texts_lem : RewritingKeepsTexts
rewriting_keeps_texts_lem from into [] [] merged [] are merges is = refl
rewriting_keeps_texts_lem from into [] [] merged (r ∷ rewritten) are merges is = cc
rewriting_keeps_texts_lem from into [] (c ∷ codes) merged rewritten are merges is = cc
rewriting_keeps_texts_lem from into (t ∷ texts) [] merged rewritten are merges is = cc
rewriting_keeps_texts_lem from into (t ∷ texts) (c ∷ codes) merged [] are merges is = cc
rewriting_keeps_texts_lem from into (t ∷ texts) (c ∷ codes) merged (r ∷ rewritten) are merges is =
    let stands : slice_get from c ≡ Some t = position_here from t c (cc) in
    let here : position_of into t ≡ Some r = map_some_at (position_of into) from merged c t r merges stands (cc) in
    let others : map (position_of into) texts ≡ map Some rewritten = rewriting_keeps_texts_lem from into texts codes merged rewritten (cc) merges (cc) in
    cc
