-- Blocks that are put into an interner one after another.
use Rattle.std.proofs.Common.{ℕ, suc, ◌≡◌, ◌+◌, ◌-◌, ◌<◌, ◌≤◌, List, [], ◌∷◌, ◌++◌, take, drop, length, Option, Some, None, IfSome, refl, sym, ap, subst, ◌∙◌, arith, get_or, length-append, length-take, ◌⊎◌, inl, inr}
use Rattle.std.specs.Prelude.{Vec, slice_get, slice_index_or, Bool}
use Rattle.std.proofs.Math.Seq.{drop-cons}
use Rattle.std.proofs.lemmas.List.{get_or-take, take-append-le, take_all}
use Rattle.std.proofs.lemmas.Option.{slice_get_within, slice_get_cases, slice_get-get_or, get_or_from_slice_get}
use Rattle.lasso_parts.proofs.IndexLaws.{slice_get-append_left, slice_get_push}
use Rattle.lasso_parts.specs.Texts.{Text}
use Rattle.lasso_single.specs.Interner.{InternerView}
use Rattle.lasso_input.specs.Lines.{lines_of}
use Rattle.lasso_columns.specs.Blocks.{IsBlock, IsBlockFor, StopsInRound, numbered}
use Rattle.lasso_columns.specs.Parts.{new_texts}
use Rattle.lasso_columns.specs.Rows.{texts_of, EncodesRows, StopsAtRow, IsRowFault}
use Rattle.lasso_columns.specs.Streams.{AddsLast, AreBlocksFor, IsLastFor, lines_in}
use Rattle.lasso_columns.specs.declared.blocks.Block.{Block}
use Rattle.lasso_columns.specs.declared.faults.LineError.{LineError}
use Rattle.lasso_columns.specs.declared.faults.LineError.TheVariants.{Refused, NotText}
use Rattle.lasso_columns.proofs.EncodedRows.{rows_join, rows_left, rows_wider}
use Rattle.lasso_columns.proofs.PartLists.{list_extended}

-- the lines of a block and of those after it
pub lines_from : {A : Type 0} (blocks : List (Vec ℕ A)) (i : ℕ) (d : Vec ℕ A) → i < length blocks → lines_in (drop i blocks) ≡ lines_of (get_or blocks i d).items ++ lines_in (drop (i + 1) blocks)
lines_from blocks i d small =
    let next : suc i ≡ i + 1 = omega arith in
    ap lines_in (drop-cons blocks i d small) ∙ ap (λ n. lines_of (get_or blocks i d).items ++ lines_in (drop n blocks)) next

-- one block more
pub block_more : (null : Option Text) (old mid new : InternerView) (all rest here more : List Text) (before middle after : List ℕ) → EncodesRows null old all rest before mid middle → rest ≡ here ++ more → EncodesRows null mid here [] middle new after → EncodesRows null old all more before new after
block_more null old mid new all rest here more before middle after so_far is rows =
    rows_join null old mid new all (here ++ more) more before middle after (rows_left null old mid all rest (here ++ more) before middle so_far (sym is)) (rows_wider null mid new here [] more middle after rows)

pub renumbered : {A : Type 0} (null : Option Text) (now : InternerView) (entries : Vec ℕ A) (line : Text) (n m : ℕ) (error : LineError) → IsRowFault null now entries line n error → IsRowFault null now entries line m (numbered error m)
renumbered null now entries line n m (Refused at error) fault = (refl, fault.1, fault.2)
renumbered null now entries line n m (NotText at) fault = (refl, fault.1)

-- a block at whose line it stops
pub block_stops_round : {A : Type 0} (null : Option Text) (old mid new : InternerView) (all rest here more : List Text) (before middle : List ℕ) (after : Vec ℕ A) (start m : ℕ) (error : LineError) → EncodesRows null old all rest before mid middle → rest ≡ here ++ more → StopsAtRow null mid here middle new after error → m ≡ length after.items - start + 1 → StopsInRound null old all before new after start (numbered error m)
block_stops_round null old mid new all rest here more before middle after start m error so_far is stops number =
    let rows = rows_join null old mid new all (here ++ more) ((stops.0 ∷ stops.1) ++ more) before middle after.items (rows_left null old mid all rest (here ++ more) before middle so_far (sym is)) (rows_wider null mid new here (stops.0 ∷ stops.1) more middle after.items stops.2) in
    (stops.0, stops.1 ++ more, rows, subst (λ n. IsRowFault null new after stops.0 n (numbered error m)) number (renumbered null new after stops.0 (length after.items - length middle + 1) m error stops.3))

-- what was made beside an interner stays so while the interner grows
pub block_later : (null : Option Text) (old mid : InternerView) (all rest : List Text) (before middle : List ℕ) (lines : List Text) (base : ℕ) (added : List Text) (entries : List ℕ) (is_complete : Bool) → EncodesRows null old all rest before mid middle → IsBlockFor null old.texts lines base added entries is_complete → IsBlockFor null mid.texts lines base added entries is_complete
block_later null old mid all rest before middle lines base added entries is_complete so_far is =
    let more = new_texts old.texts (texts_of null so_far.done) in
    let grown : mid.texts ≡ old.texts ++ more = list_extended old mid (texts_of null so_far.done) so_far.list in
    let inside : base ≤ length mid.texts = omega (arith, is.0, ap length grown, length-append old.texts more) in
    let same : take base old.texts ≡ take base mid.texts = sym (ap (take base) grown ∙ take-append-le base old.texts more is.0) in
    (inside, subst (λ (ts : List Text). IsBlock null ts lines added entries is_complete) same is.1)

-- nothing was made
pub none_made : {A : Type 0} (null : Option Text) (list : List Text) (blocks : List (Vec ℕ A)) → AreBlocksFor null list blocks []
none_made null list blocks i block bytes at at' = absurd (cc)

-- what was made beside the list
pub made_for : {A : Type 0} (null : Option Text) (list : List Text) (blocks : List (Vec ℕ A)) (made : List (Option Block)) → ((i : ℕ) (d : Option Block) (e : Vec ℕ A) → i < length blocks → IfSome (slice_index_or made i d) (λ block. IsBlock null list (lines_of (slice_index_or blocks i e).items) block.added block.entries.items block.is_complete × (block.base ≡ length list))) → AreBlocksFor null list blocks made
made_for {A} null list blocks made each i block bytes at at' =
    let small : i < length blocks = slice_get_within blocks i bytes at' in
    let here : get_or made i None ≡ Some block = get_or_from_slice_get made i (Some block) None at in
    let same : get_or blocks i bytes ≡ bytes = get_or_from_slice_get blocks i bytes bytes at' in
    let told = subst (λ (o : Option Block). IfSome o (λ b. IsBlock null list (lines_of (get_or blocks i bytes).items) b.added b.entries.items b.is_complete × (b.base ≡ length list))) here (each i None bytes small) in
    let block_is : IsBlock null list (lines_of bytes.items) block.added block.entries.items block.is_complete =
    subst (λ (b : Vec ℕ A). IsBlock null list (lines_of b.items) block.added block.entries.items block.is_complete) same told.0 in
    let whole : list ≡ take block.base list = sym (take_all block.base list (omega (arith, told.1))) in
    (omega (arith, told.1), subst (λ (ts : List Text). IsBlock null ts (lines_of bytes.items) block.added block.entries.items block.is_complete) whole block_is)

slice_get_taken : {A : Type 0} (xs : List A) (n i : ℕ) (x : A) → i < n → slice_get xs i ≡ Some x → slice_get (take n xs) i ≡ Some x
slice_get_taken xs n i x small at =
    let inside : i < length (take n xs) = omega (arith, small, slice_get_within xs i x at, length-take n xs) in
    slice_get-get_or (take n xs) i x inside ∙ ap (λ y. Some y) (get_or-take n xs i x small ∙ get_or_from_slice_get xs i x x at)

-- what was made of the first blocks alone
pub first_for : {A : Type 0} (null : Option Text) (list : List Text) (blocks : List (Vec ℕ A)) (n : ℕ) (made : List (Option Block)) → length made ≤ n → AreBlocksFor null list (take n blocks) made → AreBlocksFor null list blocks made
first_for {A} null list blocks n made long are i block bytes at at' =
    are i block bytes at (slice_get_taken blocks n i bytes (omega (arith, long, slice_get_within made i (Some block) at)) at')

-- and what was made of the last
module _ {A : Type 0} (null : Option Text) (list : List Text) (blocks : List (Vec ℕ A)) (made : List (Option Block)) (last : Option Block) where
  last_at : (i : ℕ) (block : Block) (bytes : Vec ℕ A) → AreBlocksFor null list blocks made → IsLastFor null list blocks last → length made + 1 ≡ length blocks → slice_get (made ++ last ∷ []) i ≡ Some (Some block) → slice_get blocks i ≡ Some bytes
      → (((x : Option Block) × (i < length made) × (slice_get made i ≡ Some x) × (get_or made i x ≡ x)) ⊎ ((length made ≤ i) × (slice_get made i ≡ None))) → IsBlockFor null list (lines_of bytes.items) block.base block.added block.entries.items block.is_complete
  last_at i block bytes are is count at at' (inl here) = are i block bytes (sym (slice_get-append_left made (last ∷ []) i here.1) ∙ at) at'
  last_at i block bytes are is count at at' (inr past) =
      let inside = slice_get_within (made ++ last ∷ []) i (Some block) at in
      let end : i ≡ length made = omega (arith, past.0, inside, length-append made (last ∷ [])) in
      let put : Some last ≡ Some (Some block) = sym (slice_get_push made last) ∙ ap (slice_get (made ++ last ∷ [])) (sym end) ∙ at in
      let same : last ≡ Some block = cc in
      let told = subst (λ (o : Option Block). IsLastFor null list blocks o) same is in
      told bytes (ap (slice_get blocks) (omega (arith, end, count)) ∙ at')

  pub last_for : (all : List (Option Block)) → AreBlocksFor null list blocks made → IsLastFor null list blocks last → AddsLast blocks made last all → AreBlocksFor null list blocks all
  last_for all are is (inl same) = subst (AreBlocksFor null list blocks) (sym same) are
  last_for all are is (inr added) =
      subst (AreBlocksFor null list blocks) (sym added.1) (λ i block bytes at at'. last_at i block bytes are is added.0 at at' (slice_get_cases made i).1)

-- the last block was encoded beside the list
pub last_made : {A : Type 0} (null : Option Text) (list : List Text) (blocks : List (Vec ℕ A)) (last : Vec ℕ A) (made : Option Block) → slice_get blocks (length blocks - 1) ≡ Some last
    → IfSome made (λ block. IsBlock null list (lines_of last.items) block.added block.entries.items block.is_complete) → IfSome made (λ block. block.base ≡ length list) → IsLastFor null list blocks made
last_made null list blocks last None at is base = tt
last_made {A} null list blocks last (Some block) at is base = λ bytes at'.
    let both : Some last ≡ Some bytes = sym at ∙ at' in
    let same : last ≡ bytes = cc in
    let block_is : IsBlock null list (lines_of bytes.items) block.added block.entries.items block.is_complete =
    subst (λ (b : Vec ℕ A). IsBlock null list (lines_of b.items) block.added block.entries.items block.is_complete) same is in
    let whole : list ≡ take block.base list = sym (take_all block.base list (omega (arith, base))) in
    (omega (arith, base), subst (λ (ts : List Text). IsBlock null ts (lines_of bytes.items) block.added block.entries.items block.is_complete) whole block_is)
