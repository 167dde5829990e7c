-- The texts that spans name in the regions of an arena.
use Rattle.std.specs.Prelude.{List, map}
use Rattle.std.specs.List.{All}
use Rattle.lasso.specs.Arena.{text_at, IsStored}
use Rattle.lasso.specs.Bucket.{Extent}
use Rattle.lasso.specs.Texts.{Text}
use Rattle.lasso.specs.Span.{Span}

-- the texts of the spans, in order
abbrev pub texts_in : List Extent → List Span → List Text
texts_in regions spans = map (text_at regions) spans

-- the regions have the text of each span
abbrev pub AreStored : List Extent → List Span → Type 0
AreStored regions spans = All (IsStored regions) spans
