-- Interning one text more, after a list of texts was interned without a refusal.
--
-- The definition goes through the list from its first text, and a loop adds texts at the end. So each text of
-- the list is stepped over, none of which was refused, and the one more comes after the last.
use Rattle.std.proofs.Common.{◌≡◌, ℕ, Bool, false, List, [], ◌∷◌, ◌++◌, map, Option, Some, Result, Ok, Err, MatchResult, refl, sym, subst}
use Rattle.std.specs.Iterator.{Yields}
use Rattle.std.proofs.lemmas.List.{map_push}
use Rattle.std.proofs.lemmas.Result.{MatchResult-weaker}
use Rattle.lasso_parts.specs.Account.{Account, fresh}
use Rattle.lasso_parts.specs.Texts.{Text}
use Rattle.lasso_parts.specs.declared.util.LassoError.{LassoError}
use Rattle.lasso_single.specs.Filling.{extend}
use Rattle.lasso_single.specs.Intern.{InternsIn}
use Rattle.lasso_single.specs.Interner.{InternerView, IsMadeWith, made_with}

-- the result where nothing was refused
abbrev pub accepted : Result (Unit {0}) LassoError
accepted = Ok tt

-- a reply is that of the call that ended
abbrev pub EndsWith : {K : Type 0} → Result K LassoError → Result (Unit {0}) LassoError → Type 0
EndsWith one reply = MatchResult one (λ _. reply ≡ accepted) (λ error. reply ≡ Err error)

first_accepted : {K : Type 0} (key_at : ℕ → Option K) (mid last : InternerView) (texts : List Text) (one : Result K LassoError) → MatchResult one (λ _. extend key_at mid texts accepted last) (λ error. (accepted ≡ Err error) × (last ≡ mid)) → (k : K) × (one ≡ Ok k) × extend key_at mid texts accepted last
first_accepted key_at mid last texts (Ok k) h = (k, refl, h)
first_accepted key_at mid last texts (Err error) h = let e = h.0 in cc

last_one : {K : Type 0} (key_at : ℕ → Option K) (one : Result K LassoError) (reply : Result (Unit {0}) LassoError) (new : InternerView) → EndsWith one reply → MatchResult one (λ _. extend key_at new [] reply new) (λ error. (reply ≡ Err error) × (new ≡ new))
last_one key_at (Ok k) reply new e = (e, refl)
last_one key_at (Err error) reply new e = (e, refl)

pub extend_push : {K : Type 0} (key_at : ℕ → Option K) (old mid new : InternerView) (texts : List Text) (text : Text) (one : Result K LassoError) (reply : Result (Unit {0}) LassoError) → extend key_at old texts accepted mid → InternsIn key_at mid text one new → EndsWith one reply → extend key_at old (texts ++ text ∷ []) reply new
extend_push {K} key_at old mid new [] text one reply h interns e =
    (one, new, subst (λ (i : InternerView). InternsIn key_at i text one new) h.1 interns, last_one key_at one reply new e)
extend_push {K} key_at old mid new (t ∷ ts) text one reply h interns e =
    let first = first_accepted key_at h.1 mid ts h.0 h.3 in
    let others : extend key_at h.1 (ts ++ text ∷ []) reply new = extend_push key_at h.1 mid new ts text one reply first.2 interns e in
    (h.0, h.1, h.2, subst (λ (r : Result K LassoError). MatchResult r (λ _. extend key_at h.1 (ts ++ text ∷ []) reply new) (λ error. (reply ≡ Err error) × (new ≡ h.1))) (sym first.1) others)

-- the same, where the texts are those that items lend
pub extend_turn : {K T : Type 0} (key_at : ℕ → Option K) (lent_text : T → Text) (old mid new : InternerView) (items : List T) (item : T) (text : Text) (one : Result K LassoError) (reply : Result (Unit {0}) LassoError) → extend key_at old (map lent_text items) accepted mid → text ≡ lent_text item → InternsIn key_at mid text one new → EndsWith one reply → extend key_at old (map lent_text (items ++ item ∷ [])) reply new
extend_turn {K} key_at lent_text old mid new items item text one reply h lent interns e =
    let same : InternsIn key_at mid (lent_text item) one new = subst (λ (t : Text). InternsIn key_at mid t one new) lent interns in
    subst (λ (texts : List Text). extend key_at old texts reply new) (sym (map_push lent_text items item)) (extend_push key_at old mid new (map lent_text items) (lent_text item) one reply h same e)

-- an iterator gave one item more
pub yields_push : {S T : Type 0} (steps : S → Option T → S → Type 0) (from to after : S) (items : List T) (item : T) → Yields steps from items to → steps to (Some item) after → Yields steps from (items ++ item ∷ []) after
yields_push steps from to after [] item gave step = (after, subst (λ s. steps s (Some item) after) (sym gave) step, refl)
yields_push steps from to after (x ∷ xs) item gave step = (gave.0, gave.1, yields_push steps gave.0 to after xs item gave.2 step)

-- texts after a refused one change nothing
pub extend_stopped : {K : Type 0} (key_at : ℕ → Option K) (old new : InternerView) (texts more : List Text) (error : LassoError) → extend key_at old texts (Err error) new → extend key_at old (texts ++ more) (Err error) new
extend_stopped key_at old new [] more error h = let e = h.0 in cc
extend_stopped key_at old new (t ∷ ts) more error h =
    (h.0, h.1, h.2, MatchResult-weaker h.0 h.3 (λ k others. extend_stopped key_at h.1 new ts more error others) (λ e last. last))

abbrev made_of : List Text → Account → ℕ → ℕ → ℕ → Bool → InternerView
made_of texts account first copied most is_cleared = record { texts = texts; account = account; first = first; copied = copied; most = most; is_cleared = is_cleared }

made_fields : (texts : List Text) (account : Account) (first copied most bytes limit : ℕ) (is_cleared : Bool) → texts ≡ [] → account ≡ fresh bytes limit → first ≡ bytes → copied ≡ 0 → is_cleared ≡ false → most ≡ 0 → made_of texts account first copied most is_cleared ≡ made_with bytes limit
made_fields texts account first copied most bytes limit is_cleared t a f c m g = rw (t, a, f, c, m, g) refl

-- an interner that was just made is known
pub just_made : (now : InternerView) (bytes limit : ℕ) → now.texts ≡ [] → now.account ≡ fresh bytes limit → IsMadeWith bytes 0 now → now ≡ made_with bytes limit
just_made now bytes limit t a m = made_fields now.texts now.account now.first now.copied now.most bytes limit now.is_cleared t a m.0 m.1 m.2 m.3
