-- The clauses of calls that intern several texts, each from `InternsEach`, and that relation again from them.
--
-- A text that is interned is present, and then nothing changes; or it is absent, goes last, and its bytes are stored and counted. So the
-- list at the end begins with the old one, and what follows it is just what was stored. The other way, whether the first text is present
-- says what its call left, and the clauses hold from there on for the other texts.
use Rattle.std.proofs.Common.{◌≡◌, ◌∙◌, ℕ, ◌+◌, List, [], ◌∷◌, ◌++◌, length, drop, map, cond, is_some, Bool, true, false, Option, Some, None, IsSome, Result, Ok, Err, MatchResult, refl, sym, ap, subst, arith, append_assoc}
use Rattle.std.specs.Prelude.{option_and_then}
use Rattle.std.proofs.lemmas.List.{append-nil, drop_all, drop_at}
use Rattle.std.proofs.lemmas.List.Sums.{sum_by-cons}
use Rattle.std.proofs.lemmas.Option.{option_and_then_some, same_Some}
use Rattle.lasso_parts.specs.Account.{Account, store}
use Rattle.lasso_parts.specs.Texts.{Text, position_of, key_of}
use Rattle.lasso_parts.specs.declared.util.LassoError.{LassoError}
use Rattle.lasso_parts.proofs.TextLemmas.{position_last}
use Rattle.lasso_single.specs.Copies.{bytes_of, store_all}
use Rattle.lasso_single.specs.Filling.{extend, account_with_all, added_texts, with_new, with_all_new}
use Rattle.lasso_single.specs.FillingFacts.{FillingFacts, FillingFactsSayAll}
use Rattle.lasso_single.specs.Intern.{InternsIn}
use Rattle.lasso_single.specs.Interner.{InternerView, KeepsOrigin}
use Rattle.lasso_single.specs.KeyLists.{AreKeys}
use Rattle.lasso_single.proofs.Coded.{position_stays}
use Rattle.lasso_single.proofs.Filled.{accepted}
use Rattle.lasso_single.proofs.InternFacts.{present_idle, absent_last, absent_stored, absent_copied}
use Rattle.lasso_single.proofs.Interned.{present, gone_in}
use Rattle.lasso_single.proofs.KeyLists.{key_left, keys_stay, list_left, same_fields}

-- ---- the list

one_more : (there : Bool) (list : List Text) (text : Text) → (more : List Text) × (cond there list (list ++ text ∷ []) ≡ list ++ more)
one_more true list text = ([], sym (append-nil list))
one_more false list text = (text ∷ [], refl)

-- the list with more texts begins with the list
pub all_more : (list texts : List Text) → (more : List Text) × (with_all_new list texts ≡ list ++ more)
all_more list [] = ([], sym (append-nil list))
all_more list (text ∷ texts) =
    let first = one_more (is_some (position_of list text)) list text in
    let others = all_more (with_new list text) texts in
    (first.0 ++ others.0, others.1 ∙ ap (λ (ts : List Text). ts ++ others.0) first.1 ∙ append_assoc list first.0 others.0)

-- a present text stays where it is
position_stays_by : (there : Bool) (list : List Text) (last text : Text) (n : ℕ) → position_of list text ≡ Some n → position_of (cond there list (list ++ last ∷ [])) text ≡ Some n
position_stays_by true list last text n at = at
position_stays_by false list last text n at = position_stays list last text n at

pub position_later : (more list : List Text) (text : Text) (n : ℕ) → position_of list text ≡ Some n → position_of (with_all_new list more) text ≡ Some n
position_later [] list text n at = at
position_later (last ∷ more) list text n at = position_later more (with_new list last) text n (position_stays_by (is_some (position_of list last)) list last text n at)

-- the texts after the old ones are the one that went last, and those after it
added_one : (olds mids news more : List Text) (text : Text) → mids ≡ olds ++ text ∷ [] → news ≡ mids ++ more → drop (length olds) news ≡ text ∷ drop (length mids) news
added_one olds mids news more text last begins =
    let whole : news ≡ olds ++ (text ∷ more) = begins ∙ ap (λ (ts : List Text). ts ++ more) last ∙ append_assoc olds (text ∷ []) more in
    let after : drop (length mids) news ≡ more = ap (drop (length mids)) begins ∙ drop_at mids more (length mids) refl in
    ap (drop (length olds)) whole ∙ drop_at olds (text ∷ more) (length olds) refl ∙ ap (λ (ts : List Text). text ∷ ts) (sym after)

-- ---- what is stored

-- the account and the copied bytes grow by the added texts alone, and nothing was cleared
pub record Added (old new : InternerView) : Type 0 where
  pub account : account_with_all old (added_texts old new) ≡ Some new.account
  pub copied : new.copied ≡ old.copied + bytes_of (added_texts old new)
  pub origin : KeepsOrigin old new

added_none : (old : InternerView) → Added old old
added_none old =
    let none : added_texts old old ≡ [] = drop_all (length old.texts) old.texts (omega arith) in record {
      account = ap (account_with_all old) none;
      copied = omega (arith, ap bytes_of none);
      origin = (refl, refl, refl);
    }

added_first : (old mid new : InternerView) (text : Text) (more : List Text) → mid.texts ≡ old.texts ++ text ∷ [] → store old.first old.account (length text) ≡ Some mid.account → mid.copied ≡ old.copied + length text → KeepsOrigin old mid → new.texts ≡ mid.texts ++ more → Added mid new → Added old new
added_first old mid new text more last stored copied origin begins rest =
    let after : List Text = added_texts mid new in
    let all : added_texts old new ≡ text ∷ after = added_one old.texts mid.texts new.texts more text last begins in
    let left : store_all old.first mid.account after ≡ Some new.account = subst (λ (first : ℕ). store_all first mid.account after ≡ Some new.account) origin.0 rest.account in record {
      account = ap (account_with_all old) all ∙ ap (λ (o : Option Account). option_and_then (λ (b : Account). store_all old.first b after) o) stored ∙ left;
      copied = omega (arith, copied, rest.copied, ap bytes_of all, sum_by-cons (λ (t : Text). length t) text after);
      origin = (rest.origin.0 ∙ origin.0, rest.origin.1 ∙ origin.1, rest.origin.2 ∙ origin.2);
    }

first_by : {K : Type 0} (key_at : ℕ → Option K) (old mid new : InternerView) (text : Text) (texts : List Text) (one : Result K LassoError) → InternsIn key_at old text one mid → MatchResult one (λ _. extend key_at mid texts accepted new) (λ error. (accepted ≡ Err error) × (new ≡ mid)) → (k : K) × InternsIn key_at old text (Ok k) mid × extend key_at mid texts accepted new
first_by key_at old mid new text texts (Ok k) interns rest = (k, interns, rest)
first_by key_at old mid new text texts (Err error) interns rest = let e = rest.0 in cc

module _ {K : Type 0} (key_at : ℕ → Option K) where
  -- ---- the clauses

  pub filled_texts : (texts : List Text) (old new : InternerView) → extend key_at old texts accepted new → new.texts ≡ with_all_new old.texts texts
  filled_texts [] old new h = ap (λ (v : InternerView). v.texts) h.1
  filled_texts (text ∷ texts) old new h =
      let first = first_by key_at old h.1 new text texts h.0 h.2 h.3 in
      filled_texts texts h.1 new first.2 ∙ ap (λ (ts : List Text). with_all_new ts texts) (list_left key_at old h.1 text first.0 first.1)

  added_by : (o : Option ℕ) (old mid new : InternerView) (text : Text) (texts : List Text) (k : K) → position_of old.texts text ≡ o → InternsIn key_at old text (Ok k) mid → new.texts ≡ with_all_new mid.texts texts → Added mid new → Added old new
  added_by (Some n) old mid new text texts k found interns list rest =
      let same : mid ≡ old = (present_idle key_at old mid text (Ok k) interns (subst IsSome (sym found) refl)).1 in
      subst (λ (v : InternerView). Added v new) same rest
  added_by None old mid new text texts k absent interns list rest =
      let more = all_more mid.texts texts in
      added_first old mid new text more.0 (absent_last key_at old mid text (Ok k) interns absent) (absent_stored key_at old mid text (Ok k) interns absent) (absent_copied key_at old mid text (Ok k) interns absent) interns.2 (list ∙ more.1) rest

  pub filled_added : (texts : List Text) (old new : InternerView) → extend key_at old texts accepted new → Added old new
  filled_added [] old new h = subst (λ (v : InternerView). Added old v) (sym h.1) (added_none old)
  filled_added (text ∷ texts) old new h =
      let first = first_by key_at old h.1 new text texts h.0 h.2 h.3 in
      added_by (position_of old.texts text) old h.1 new text texts first.0 refl first.1 (filled_texts texts h.1 new first.2) (filled_added texts h.1 new first.2)

  keys_later : (more list texts : List Text) (keys : List K) → AreKeys key_at list texts keys → AreKeys key_at (with_all_new list more) texts keys
  keys_later [] list texts keys are = are
  keys_later (last ∷ more) list texts keys are = keys_later more (with_new list last) texts keys (keys_stay key_at list last (is_some (position_of list last)) texts keys are)

  pub filled_keys : (texts : List Text) (old new : InternerView) → extend key_at old texts accepted new → (keys : List K) × AreKeys key_at new.texts texts keys
  filled_keys [] old new h = ([], refl)
  filled_keys (text ∷ texts) old new h =
      let first = first_by key_at old h.1 new text texts h.0 h.2 h.3 in
      let rest = filled_keys texts h.1 new first.2 in
      let here : AreKeys key_at h.1.texts (text ∷ []) (first.0 ∷ []) = ap (λ (o : Option K). o ∷ []) (key_left key_at old h.1 text first.0 first.1) in
      let later : AreKeys key_at new.texts (text ∷ []) (first.0 ∷ []) =
      subst (λ (ts : List Text). AreKeys key_at ts (text ∷ []) (first.0 ∷ [])) (sym (filled_texts texts h.1 new first.2)) (keys_later texts h.1.texts (text ∷ []) (first.0 ∷ []) here) in
      let key : key_of key_at new.texts text ≡ Some first.0 = cc in
      let others : map (key_of key_at new.texts) texts ≡ map Some rest.0 = rest.1 in
      (first.0 ∷ rest.0, cc)

  pub filled_facts : (texts : List Text) (old new : InternerView) → extend key_at old texts accepted new → FillingFacts K key_at old texts new
  filled_facts texts old new h =
      let added = filled_added texts old new h in record {
        keys = filled_keys texts old new h;
        texts = filled_texts texts old new h;
        account = added.account;
        copied = added.copied;
        origin = added.origin;
      }

  -- ---- the clauses say all

  first_key : (list : List Text) (text : Text) (texts : List Text) (keys : List K) → AreKeys key_at list (text ∷ texts) keys → (k : K) × (others : List K) × (key_of key_at list text ≡ Some k) × AreKeys key_at list texts others
  first_key list text texts [] are = cc
  first_key list text texts (k ∷ others) are = (k, others, cc, cc)

  -- what the call of the first text left, and the clauses from there on
  first_left : (o : Option ℕ) (text : Text) (texts : List Text) (old new : InternerView) (k : K) (others : List K) → position_of old.texts text ≡ o → key_of key_at new.texts text ≡ Some k → AreKeys key_at new.texts texts others → FillingFacts K key_at old (text ∷ texts) new
      → (mid : InternerView) × InternsIn key_at old text (Ok k) mid × FillingFacts K key_at mid texts new
  first_left (Some n) text texts old new k others found key are facts =
      let one : with_new old.texts text ≡ old.texts = ap (λ (o : Option ℕ). cond (is_some o) old.texts (old.texts ++ text ∷ [])) found in
      let list : new.texts ≡ with_all_new old.texts texts = facts.texts ∙ ap (λ (ts : List Text). with_all_new ts texts) one in
      let here : position_of new.texts text ≡ Some n = subst (λ (ts : List Text). position_of ts text ≡ Some n) (sym list) (position_later texts old.texts text n found) in
      let keyed : key_at n ≡ Some k = ap (option_and_then key_at) (sym here) ∙ key in
      (old, present key_at old text n k found keyed, record { keys = (others, are); texts = list; account = facts.account; copied = facts.copied; origin = facts.origin })
  first_left None text texts old new k others absent key are facts =
      let put : List Text = old.texts ++ text ∷ [] in
      let one : with_new old.texts text ≡ put = ap (λ (o : Option ℕ). cond (is_some o) old.texts (old.texts ++ text ∷ [])) absent in
      let list : new.texts ≡ with_all_new put texts = facts.texts ∙ ap (λ (ts : List Text). with_all_new ts texts) one in
      let here : position_of new.texts text ≡ Some (length old.texts) = subst (λ (ts : List Text). position_of ts text ≡ Some (length old.texts)) (sym list) (position_later texts put text (length old.texts) (position_last old.texts text absent)) in
      let keyed : key_at (length old.texts) ≡ Some k = ap (option_and_then key_at) (sym here) ∙ key in
      let more = all_more put texts in
      let after : List Text = drop (length put) new.texts in
      let all : added_texts old new ≡ text ∷ after = added_one old.texts put new.texts more.0 text refl (list ∙ more.1) in
      let stored : account_with_all old (text ∷ after) ≡ Some new.account = sym (ap (account_with_all old) all) ∙ facts.account in
      option_and_then_some (λ (b : Account). store_all old.first b after) (store old.first old.account (length text)) new.account stored (λ a one_stored rest.
      let mid : InternerView = record { texts = put; account = a; first = old.first; copied = old.copied + length text; most = old.most; is_cleared = old.is_cleared } in (
        mid,
        gone_in key_at old text absent k keyed mid refl one_stored refl (refl, refl, refl),
        record {
          keys = (others, are);
          texts = list;
          account = rest;
          copied = omega (arith, facts.copied, ap bytes_of all, sum_by-cons (λ (t : Text). length t) text after);
          origin = facts.origin;
        },
      ))

  none_left : (old new : InternerView) → FillingFacts K key_at old [] new → new ≡ old
  none_left old new facts =
      let none : added_texts old new ≡ [] = ap (drop (length old.texts)) facts.texts ∙ drop_all (length old.texts) old.texts (omega arith) in
      let account : old.account ≡ new.account = same_Some old.account new.account (sym (ap (account_with_all old) none) ∙ facts.account) in
      let copied : new.copied ≡ old.copied = omega (arith, facts.copied, ap bytes_of none) in
      same_fields old.texts new.texts old.account new.account old.first new.first old.copied new.copied old.most new.most old.is_cleared new.is_cleared facts.texts (sym account) facts.origin.0 copied facts.origin.2 facts.origin.1

  pub each_from_facts : (texts : List Text) (old new : InternerView) → FillingFacts K key_at old texts new → extend key_at old texts accepted new
  each_from_facts [] old new facts = (refl, none_left old new facts)
  each_from_facts (text ∷ texts) old new facts =
      let first = first_key new.texts text texts facts.keys.0 facts.keys.1 in
      let left = first_left (position_of old.texts text) text texts old new first.0 first.1 refl first.2 first.3 facts in
      (Ok first.0, left.0, left.1, each_from_facts texts left.0 new left.2)

pub filling_facts_say_all : {K : Type 0} (key_at : ℕ → Option K) → FillingFactsSayAll key_at
filling_facts_say_all key_at old new texts = (each_from_facts key_at texts old new, filled_facts key_at texts old new)
