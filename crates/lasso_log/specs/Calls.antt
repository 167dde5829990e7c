-- What one call of a shared interner is, by what its pass has seen of the history at its beginning and at its end.
use Rattle.std.specs.Prelude.{◌≡◌, ◌⊎◌, ◌==◌, ℕ, List, [], ◌∷◌, ◌++◌, length, Option, Ok, Err, if◌then◌else◌}
use Rattle.lasso_parts.specs.Texts.{Text}
use Rattle.lasso_parts.specs.declared.util.LassoErrorKind.TheVariants.{KeySpaceExhaustion}
use Rattle.lasso_log.specs.History.{Event, Reserve, Charge, Append, Limit, History, Totals, totals, IsLegal}
use Rattle.lasso_log.specs.Replies.{Keeping, Copied, Static, Question, Intern, SetLimit, Iterate, Strings, Serialize, Freeze, Reply, Interned, MayReply}

-- the events of one pass, in order
abbrev pub events_of : ℕ → History → List Event
events_of pass [] = []
events_of pass (e ∷ es) = if e.0 == pass then e.1 ∷ events_of pass es else events_of pass es

-- one event takes n bytes, in a present bucket or in a new one
abbrev pub TakesBytes : ℕ → List Event → Type 0
TakesBytes n es = ((bucket : ℕ) × (es ≡ Reserve bucket n ∷ [])) ⊎ ((size : ℕ) × (es ≡ Charge size n ∷ []))

-- the events that store a text's bytes: one `Reserve` or `Charge` of its length if it is copied and not
-- empty, and else none
abbrev pub Stores : Keeping → Text → List Event → Type 0
Stores Static text es = es ≡ []
Stores Copied [] es = es ≡ []
Stores Copied (byte ∷ bytes) es = TakesBytes (length (byte ∷ bytes)) es

-- the bytes of a new text are stored, and then it is put last
abbrev pub StoresAndAppends : Keeping → Text → List Event → Type 0
StoresAndAppends keeping text es = (stored : List Event) × Stores keeping text stored × (es ≡ stored ++ Append text ∷ [])

-- the events that a call makes, by its reply. An intern that returns a key: none, or what stores the text's
-- bytes and then `Append` of the text. One that is refused as `KeySpaceExhaustion`: what stores the text's
-- bytes. `SetLimit`: `Limit`. Every other call: none
abbrev pub Makes : {K : Type 0} → Question → Reply K → List Event → Type 0
Makes (Intern keeping text) (Interned (Ok k)) es = (es ≡ []) ⊎ StoresAndAppends keeping text es
Makes (Intern keeping text) (Interned (Err KeySpaceExhaustion)) es = Stores keeping text es
Makes (SetLimit limit) reply es = es ≡ Limit limit ∷ []
Makes question reply es = es ≡ []

-- What may come after the step at which the reply was read, up to the end: nothing if the whole list is read.
abbrev pub MayComeAfter : Question → History → Type 0
MayComeAfter Iterate back = back ≡ []
MayComeAfter Strings back = back ≡ []
MayComeAfter Serialize back = back ≡ []
MayComeAfter Freeze back = back ≡ []
MayComeAfter question back = Unit {0}

-- A call of the pass with this number: what the pass had seen at its beginning begins what it has seen at its
-- end, the reply may be given somewhere between the two, and past its beginning come exactly the events that
-- the call makes, among those of other passes. It says nothing of those: they are other callers'. Nor does it
-- say that the history is legal; clauses say so beside it.
pub record IsCall {K : Type 0} (key_at : ℕ → Option K) (opening : Totals) (before after : History) (pass : ℕ) (question : Question) (reply : Reply K) : Type 0 where
  pub past : History
  pub begins : before ++ past ≡ after
  pub explained : (front back : History) × (front ++ back ≡ past) × MayComeAfter question back × MayReply key_at (totals opening (before ++ front)) question reply
  pub makes : Makes question reply (events_of pass past)

-- A plain call: the call of a pass that had seen nothing, which has then seen a legal history.
pub record IsPlainCall {K : Type 0} (key_at : ℕ → Option K) (opening : Totals) (question : Question) (reply : Reply K) : Type 0 where
  pub pass : ℕ
  pub seen : History
  pub call : IsCall key_at opening [] seen pass question reply
  pub legal : IsLegal key_at opening seen
