-- Types that words and names write, arm by arm.
use Rattle.std.specs.Prelude.{List, Option, Ok}
use Rattle.sv_tree.specs.Extents.{qualified_first}
use Rattle.sv_tree.specs.declared.expressions.Dimension.{Dimension}
use Rattle.sv_tree.specs.declared.names.QualifiedName.{QualifiedName}
use Rattle.sv_tree.specs.declared.names.Signing.{Signing}
use Rattle.sv_tree.specs.declared.types.KeywordType.{KeywordType}
use Rattle.sv_types.specs.declared.types.SvType.{SvType}
use Rattle.expr_type.specs.KeywordTypes.{implicit_type, keyword_type}
use Rattle.expr_type.specs.Names.{Context, position}
use Rattle.expr_type.specs.Shapes.{is_unpacked}
use Rattle.expr_type.specs.Types.{dims, named_with}
use Rattle.expr_type.specs.Typings.{Typing, checked, refused, rule, whole}

-- a word, and a sign, with dimensions
abbrev pub keyword_of : Context → KeywordType → List Dimension → Typing SvType
keyword_of k of ds = checked (dims k ds) (λ d. whole (keyword_type of d))

abbrev pub implicit_of : Context → Option Signing → List Dimension → Typing SvType
implicit_of k signing ds = checked (dims k ds) (λ d. whole (implicit_type signing d))

-- the type under an enum, by a word and by a name
abbrev pub base_keyword : Context → KeywordType → List Dimension → Typing SvType
base_keyword k of ds = keyword_of k of ds

abbrev pub base_named : Context → QualifiedName → List Dimension → Typing SvType
base_named k of ds =
    checked (named_with k of ds) (λ t. rule (refused (is_unpacked t) (position k.source (qualified_first of)) 404 (Ok t)))
