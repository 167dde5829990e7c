-- What an entry's loan owns: nothing of a text that an arena copied, since the regions own its bytes.
use Rattle.std.specs.Prelude.{[]}
use base.Fml.{Lft, Fml, ftrue}
use denote.Builtin.{u8}
use denote.RawPtr.{Ptr, block_of, count_of}
use denote.Slice.{elements_shared}
use Rattle.lasso_parts.specs.Entries.{Source, Copied, Static}

-- nothing of a text that an arena copied; of another a `&` to each of its bytes, of which the first is at p, at
-- the lifetime κ
abbrev pub lent : Source → Ptr → Lft → Fml
lent (Copied span) p κ = ftrue
lent (Static text) p κ = elements_shared u8 text (block_of p) (count_of p) κ

-- the same for the lifetime that never ends: what a static text is kept by
abbrev pub lent_for_ever : Source → Ptr → Fml
lent_for_ever source p = lent source p []
