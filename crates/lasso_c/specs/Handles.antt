-- What a call on a handle is about: the list and the account of its interner, what a look-up finds, and how a
-- call ends. A handle holds an interner or none.
use Rattle.std.specs.Prelude.{◌≡◌, ℕ, Bool, true, false, List, [], length, drop, slice_get, ok_or, nat_lt, if◌then◌else◌, Option, None, Some, Result, Ok, Err}
use Rattle.std.specs.List.{concat}
use Rattle.lasso_parts.specs.Account.{Account}
use Rattle.lasso_parts.specs.Texts.{Text, position_of}
use Rattle.lasso_parts.specs.Layout.{layout_texts}
use Rattle.lasso_single.specs.Copies.{clone_of}
use Rattle.lasso_c.specs.Layout.{layout_fault}
use Rattle.lasso_c.specs.Encoding.{codes_of, row_codes, sizes_of, with_all_new}
use Rattle.lasso_c.specs.Decoding.{fitting, unless_faulty}
use Rattle.lasso_c.specs.declared.error.Sizes.{Sizes}
use Rattle.lasso_c.specs.declared.error.CallError.{CallError}
use Rattle.lasso_c.specs.declared.error.CallError.TheVariants.{CodesTooShort, TooManyBytes, NoInterner, NoSuchCode, NoSuchText, NotUtf8}
use Rattle.lasso_c.specs.declared.seed.Seed.{Seed}
use Rattle.lasso_c.specs.Seeded.{Interner}

-- the texts of the interner, or none if there is no interner
abbrev pub texts_in : Option Interner → List Text
texts_in None = []
texts_in (Some interner) = interner.rodeo.texts

-- the texts of the interner `after` are those of `before`, and then each of these that is new, in order
abbrev pub PutsNew : (before after : Option Interner) → List Text → Type 0
PutsNew before after texts = texts_in after ≡ with_all_new (texts_in before) texts

-- the codes that the texts have in the interner
abbrev pub codes_in : Option Interner → List Text → List ℕ
codes_in held texts = codes_of (texts_in held) texts

-- the codes of rows in it, of which a null has the given one
abbrev pub row_codes_in : ℕ → Option Interner → List (Option Text) → List ℕ
row_codes_in null held rows = row_codes null (texts_in held) rows

-- the account of the interner, if there is one
abbrev pub account_in : Option Interner → Option Account
account_in None = None
account_in (Some interner) = Some interner.rodeo.account

-- the account of a clone of the interner
abbrev pub clone_account : Interner → Option Account
clone_account interner = clone_of interner.rodeo.texts interner.rodeo.account.limit

-- the bytes of its first bucket, if there is one
abbrev pub first_in : Option Interner → Option ℕ
first_in None = None
first_in (Some interner) = Some interner.rodeo.first

-- what the hashers of the interner begin with, if there is one
abbrev pub seed_in : Option Interner → Option Seed
seed_in None = None
seed_in (Some interner) = Some interner.seed

-- the code of a text among these, or that they do not have it
abbrev pub text_lookup_in : List Text → Text → Result ℕ CallError
text_lookup_in texts text = ok_or (position_of texts text) NoSuchText

-- the text of a code among these, or that they have none
abbrev pub code_lookup_in : List Text → ℕ → Result Text CallError
code_lookup_in texts code = ok_or (slice_get texts code) (NoSuchCode 0)

-- the code of a text in the interner, if there is one
abbrev pub known_text_lookup : Option Interner → Text → Result ℕ CallError
known_text_lookup None text = Err NoInterner
known_text_lookup (Some interner) text = text_lookup_in interner.rodeo.texts text

-- the same, unless the bytes are not UTF-8
abbrev pub text_lookup : Bool → Option Interner → Text → Result ℕ CallError
text_lookup false held text = Err (NotUtf8 0)
text_lookup true held text = known_text_lookup held text

-- the text of a code in the interner, if there is one
abbrev pub code_lookup : Option Interner → ℕ → Result Text CallError
code_lookup None code = Err NoInterner
code_lookup (Some interner) code = code_lookup_in interner.rodeo.texts code

-- how writing these texts ends, with that greatest offset, and room for these numbers of offsets and bytes
abbrev pub part_outcome : ℕ → List Text → ℕ → ℕ → Result Sizes CallError
part_outcome greatest texts offsets bytes =
    if nat_lt greatest (length (concat texts)) then Err (TooManyBytes 0)
    else fitting (sizes_of texts) offsets bytes

-- the same of the texts from a code on of the interner, if there is one
abbrev pub dictionary_outcome : ℕ → Option Interner → ℕ → ℕ → ℕ → Result Sizes CallError
dictionary_outcome greatest None from offsets bytes = Err NoInterner
dictionary_outcome greatest (Some interner) from offsets bytes = part_outcome greatest (drop from interner.rodeo.texts) offsets bytes

-- this number of codes, and no bytes
abbrev pub codes_alone : ℕ → Sizes
codes_alone codes = record { texts = codes; bytes = 0 }

-- how looking up the texts of that layout ends, with room for this number of codes
abbrev pub part_lookup_outcome : ℕ → List ℕ → List ℕ → ℕ → Result Sizes CallError
part_lookup_outcome greatest bytes offsets room =
    let needed = codes_alone (length (layout_texts bytes offsets)) in
    if nat_lt room needed.texts then Err (CodesTooShort needed)
    else unless_faulty (layout_fault greatest bytes offsets) (Ok needed)

-- the same in an interner, if there is one
abbrev pub lookup_outcome : ℕ → Option Interner → List ℕ → List ℕ → ℕ → Result Sizes CallError
lookup_outcome greatest None bytes offsets room = Err NoInterner
lookup_outcome greatest (Some interner) bytes offsets room = part_lookup_outcome greatest bytes offsets room
