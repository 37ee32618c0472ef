-- The spans of uses.
use Rattle.std.specs.Prelude.{List, map}
use Rattle.bit_sets.specs.declared.span.Span.{Span}
use Rattle.bit_sets.specs.declared.span.Use.{Use}

abbrev pub spans_in : List Use → List Span
spans_in us = map (λ (u : Use). u.span) us
