-- Members in the byte order of their texts: what is put among them stays in order, and two such lists of members in
-- which each text has the same value are one.
--
-- A text that is below each member's has no value among them. So where two lists begin with members of different
-- texts, the lower one has no value in the other list.
use Rattle.std.proofs.Common.{◌≡◌, ◌⊎◌, inl, inr, ℕ, ◌+◌, List, [], ◌∷◌, Some, None, Ordering, Less, Equal, Greater, nat_cmp, refl, sym, ap, ◌∙◌}
use Rattle.std.specs.Cmp.Lexicographic.{slice_cmp}
use Rattle.std.specs.List.{AllByRecursion}
use Rattle.std.specs.List.Sorted.{IsStrictlySortedBy}
use Rattle.std.specs.Ordering.{match_ordering, ordering_reverse}
use Rattle.std.proofs.lemmas.Cmp.{nat_list_cmp_total, tied_itself}
use Rattle.std.proofs.lemmas.Map.Lookups.{exact_bytes}
use Rattle.serde_json.specs.Data.{Data, Members, no_members, member, put}
use Rattle.serde_json.specs.Find.{get_member}
use Rattle.lasso_parts.specs.Texts.{Text}
use Rattle.lasso_parts.specs.JsonObjects.{AreInOrder, member_texts, position_number, put_texts}

-- how two texts compare
abbrev pub text_order : Text → Text → Ordering
text_order = slice_cmp nat_cmp

-- the text is below each member's
abbrev pub IsBelow : Text → Members → Type 0
IsBelow t ms = AllByRecursion (λ y. text_order t y ≡ Less) (member_texts ms)

pub itself : (t : Text) → text_order t t ≡ Equal
itself t = tied_itself nat_list_cmp_total t

turned : (s t : Text) (o : Ordering) → text_order s t ≡ o → text_order t s ≡ ordering_reverse o
turned s t o h = nat_list_cmp_total.antisymm t s ∙ ap ordering_reverse h

below_lower : (s t : Text) (ms : Members) → text_order s t ≡ Less → IsBelow t ms → IsBelow s ms
below_lower s t no_members lower below = tt
below_lower s t (member l e ms) lower below = (nat_list_cmp_total.trans s t l lower below.0, below_lower s t ms lower below.1)

pub order_head : (t : Text) (d : Data) (ms : Members) → AreInOrder (member t d ms) → IsBelow t ms
unfolding IsStrictlySortedBy
order_head t d ms h = h.0

pub order_tail : (t : Text) (d : Data) (ms : Members) → AreInOrder (member t d ms) → AreInOrder ms
unfolding IsStrictlySortedBy
order_tail t d ms h = h.1

order_cons : (t : Text) (d : Data) (ms : Members) → IsBelow t ms → AreInOrder ms → AreInOrder (member t d ms)
unfolding IsStrictlySortedBy
order_cons t d ms below ordered = (below, ordered)

pub order_none : AreInOrder no_members
unfolding IsStrictlySortedBy
order_none = tt

-- ---- look-ups

-- a member's own text finds it
pub get_here : (t : Text) (d : Data) (ms : Members) → get_member t (member t d ms) ≡ Some d
get_here t d ms = rw (itself t) refl

pub get_below : (t : Text) (ms : Members) → IsBelow t ms → get_member t ms ≡ None
get_below t no_members below = refl
get_below t (member l e ms) below = rw (below.0) (get_below t ms below.1)

-- what a look-up finds is the first member, or is among the others
pub get_cases : (o : Ordering) (q l : Text) (e : Data) (ms : Members) → text_order q l ≡ o → ((q ≡ l) × (get_member q (member l e ms) ≡ Some e)) ⊎ (get_member q (member l e ms) ≡ get_member q ms)
get_cases Less q l e ms is = inr (rw is refl)
get_cases Equal q l e ms is = inl (exact_bytes q l is, rw is refl)
get_cases Greater q l e ms is = inr (rw is refl)

-- ---- what is put among members

below_at : (o : Ordering) (t k l : Text) (d e : Data) (ms : Members) → text_order t k ≡ Less → IsBelow t (member l e ms) → IsBelow t (put k d ms) → IsBelow t (match_ordering o (member k d (member l e ms)) (member l d ms) (member l e (put k d ms)))
below_at Less t k l d e ms lower below rest = (lower, below)
below_at Equal t k l d e ms lower below rest = below
below_at Greater t k l d e ms lower below rest = (below.0, rest)

below_put : (t k : Text) (d : Data) (ms : Members) → text_order t k ≡ Less → IsBelow t ms → IsBelow t (put k d ms)
below_put t k d no_members lower below = (lower, tt)
below_put t k d (member l e ms) lower below = below_at (text_order k l) t k l d e ms lower below (below_put t k d ms lower below.1)

order_at : (o : Ordering) (k l : Text) (d e : Data) (ms : Members) → text_order k l ≡ o → AreInOrder (member l e ms) → AreInOrder (put k d ms) → AreInOrder (match_ordering o (member k d (member l e ms)) (member l d ms) (member l e (put k d ms)))
order_at Less k l d e ms is h rest = order_cons k d (member l e ms) (is, below_lower k l ms is (order_head l e ms h)) h
order_at Equal k l d e ms is h rest = order_cons l d ms (order_head l e ms h) (order_tail l e ms h)
order_at Greater k l d e ms is h rest =
    order_cons l e (put k d ms) (below_put l k d ms (turned k l Greater is) (order_head l e ms h)) rest

order_put : (k : Text) (d : Data) (ms : Members) → AreInOrder ms → AreInOrder (put k d ms)
order_put k d no_members h = order_cons k d no_members tt order_none
order_put k d (member l e ms) h = order_at (text_order k l) k l d e ms refl h (order_put k d ms (order_tail l e ms h))

pub order_texts : (n : ℕ) (ts : List Text) (ms : Members) → AreInOrder ms → AreInOrder (put_texts n ts ms)
order_texts n [] ms h = h
order_texts n (t ∷ ts) ms h = order_texts (n + 1) ts (put t (position_number n) ms) (order_put t (position_number n) ms h)

-- ---- members in order that are found alike

-- the text of the first member finds nothing among the others of either
none_both : (q k l : Text) (d e : Data) (ms ns : Members) → q ≡ k → k ≡ l → AreInOrder (member k d ms) → AreInOrder (member l e ns) → get_member q ms ≡ get_member q ns
none_both q k l d e ms ns qk kl h i =
    ap (λ (t : Text). get_member t ms) qk ∙ get_below k ms (order_head k d ms h)
    ∙ sym (ap (λ (t : Text). get_member t ns) (qk ∙ kl) ∙ get_below l ns (order_head l e ns i))

rest_alike : (q k l : Text) (d e : Data) (ms ns : Members) → k ≡ l → AreInOrder (member k d ms) → AreInOrder (member l e ns) → get_member q (member k d ms) ≡ get_member q (member l e ns) → get_member q ms ≡ get_member q ns
rest_alike q k l d e ms ns kl h i same = elim (get_cases (text_order q k) q k d ms refl) [
  | inl here ↦ none_both q k l d e ms ns here.0 kl h i
  | inr left ↦ elim (get_cases (text_order q l) q l e ns refl) [
    | inl here ↦ none_both q k l d e ms ns (here.0 ∙ sym kl) kl h i
    | inr right ↦ sym left ∙ same ∙ right
  ]
]

alike_at : (o : Ordering) (k l : Text) (d e : Data) (ms ns : Members) → text_order k l ≡ o → AreInOrder (member k d ms) → AreInOrder (member l e ns) → ((q : Text) → get_member q (member k d ms) ≡ get_member q (member l e ns)) → (((q : Text) → get_member q ms ≡ get_member q ns) → ms ≡ ns) → member k d ms ≡ member l e ns
alike_at Less k l d e ms ns is h i same rest =
    let gone : Some d ≡ None = sym (get_here k d ms) ∙ same k ∙ get_below k (member l e ns) (is, below_lower k l ns is (order_head l e ns i)) in cc
alike_at Greater k l d e ms ns is h i same rest =
    let lower = turned k l Greater is in
    let gone : Some e ≡ None = sym (get_here l e ns) ∙ sym (same l) ∙ get_below l (member k d ms) (lower, below_lower l k ms lower (order_head k d ms h)) in cc
alike_at Equal k l d e ms ns is h i same rest =
    let kl = exact_bytes k l is in
    let found : Some d ≡ Some e = sym (get_here k d ms) ∙ same k ∙ ap (λ (t : Text). get_member t (member l e ns)) kl ∙ get_here l e ns in
    let value : d ≡ e = cc in
    let others : ms ≡ ns = rest (λ q. rest_alike q k l d e ms ns kl h i (same q)) in
    ap (λ (t : Text). member t d ms) kl ∙ ap (λ (x : Data). member l x ms) value ∙ ap (member l e) others

pub same_members : (ms ns : Members) → AreInOrder ms → AreInOrder ns → ((q : Text) → get_member q ms ≡ get_member q ns) → ms ≡ ns
same_members no_members no_members h i same = refl
same_members no_members (member l e ns) h i same =
    let gone : None ≡ Some e = same l ∙ get_here l e ns in cc
same_members (member k d ms) no_members h i same =
    let gone : Some d ≡ None = sym (get_here k d ms) ∙ same k in cc
same_members (member k d ms) (member l e ns) h i same =
    alike_at (text_order k l) k l d e ms ns refl h i same (same_members ms ns (order_tail k d ms h) (order_tail l e ns i))
