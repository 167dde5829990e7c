-- Where an entry has its text: in itself, or outside.
use Rattle.lasso_parts.specs.Entries.{EntryView, Inside, Outside, Listed, AreWordsOf}
use Rattle.lasso_parts.specs.declared.entries.Place.{Place}
use Rattle.lasso_parts.specs.declared.entries.Place.TheVariants.{Here, There, Vast}

-- what contracts see of the entry
abbrev pub place_view : Place → EntryView
place_view (Here text) = Inside text
place_view (There len ptr loan) = Outside loan.text
place_view (Vast index) = Listed index

-- the address and the length in an entry are the words of a text outside it
abbrev pub IsPlaced : Place → Type 0
IsPlaced (Here text) = Unit {0}
IsPlaced (There len ptr loan) = AreWordsOf loan.text ptr len
IsPlaced (Vast index) = Unit {0}
