-- Indices of select paths that are read, and steps by them (IEEE 1800-2017 clauses 7.4.5 and 11.5.1).
use Rattle.std.specs.Prelude.{◌≡◌, ⊤, ℕ, ◌*◌, ◌≤◌, ◌^◌, unsigned_abs, Bool, List, [], ◌∷◌, ◌++◌, length, IfSome}
use Rattle.row_machine.specs.Valuation.{Valuation}
use Rattle.sv_types.specs.declared.expression.Expr.{Expr}
use Rattle.sv_types.specs.declared.types.SvType.{SvType}
use Rattle.sv_types.specs.Layouts.{layout, count_of}
use Rattle.sv_types.specs.Windows.{element_of, slide}
use Rattle.sv_types.specs.Surroundings.{Around}
use Rattle.sv_types.specs.Meanings as S
use Rattle.sv_types.specs.Paths as P
use Rattle.sv_types.specs.Expressions.{meaning}
use Rattle.v_tree.specs.Names.{Name}
use Rattle.v_tree.specs.declared.names.Helper.{Helper}
use Rattle.v_meaning.specs.Scopes.{Scope, named}
use Rattle.v_meaning.specs.Values as T
use Rattle.lowering_laws.specs.NamedImages.{AreImages}
use Rattle.lowering_laws.specs.Steps.{IsPath}
use Rattle.lowering_laws.specs.Words.{IsMemory}
use Rattle.path_flatten.specs.declared.readings.Reading.{Reading}
use Rattle.path_flatten.specs.Helping.{EachHelps}
use Rattle.path_flatten.specs.Naming.{SameNumbers, root_names}
use Rattle.path_flatten.specs.Reading.{Reads}
use Rattle.path_flatten.specs.Sliding.{IsIndexOf}
use Rattle.path_flatten.specs.Stepping.{IsStep}
use Rattle.path_walk.specs.declared.indices.StepIndex.{StepIndex}
use Rattle.path_walk.specs.declared.indices.StepIndex.TheVariants as I

-- a given index has the number of the source's one, or its value at its own width and sign
abbrev pub IsIndexBy : StepIndex → S.Meaning → Around → Scope → Valuation → Type 0
IsIndexBy (I.Known z) i a sc v = P.index_of i a ≡ z
IsIndexBy (I.Lowered x) i a sc v = IsIndexOf x i a sc v

-- one by one
abbrev pub Pairwise : (Expr → StepIndex → Type 0) → List Expr → List StepIndex → Type 0
Pairwise F [] [] = ⊤
Pairwise F [] (x ∷ xs) = ⊥
Pairwise F (i ∷ is) [] = ⊥
Pairwise F (i ∷ is) (x ∷ xs) = F i x × Pairwise F is xs

abbrev pub AreIndices : List Expr → List StepIndex → Around → Scope → Valuation → Type 0
AreIndices is xs a sc v = Pairwise (λ i x. IsIndexBy x (meaning i) a sc v) is xs

-- what it names, and what all of them do
abbrev pub index_names : StepIndex → Scope → List ℕ
index_names (I.Known z) sc = []
index_names (I.Lowered x) sc = (T.meaning x.expr).names sc

abbrev pub all_names : List StepIndex → Scope → List ℕ
all_names [] sc = []
all_names (x ∷ xs) sc = index_names x sc ++ all_names xs sc

-- each names the images of what the index of the source names
abbrev pub NameImages : (ℕ → ℕ) → List Expr → List StepIndex → Scope → Type 0
NameImages image is xs sc = Pairwise (λ i x. AreImages image (meaning i).names (index_names x sc)) is xs

-- it has at most 64 bits
abbrev pub IsShort : StepIndex → Type 0
IsShort (I.Known z) = IfSome z (λ k. unsigned_abs k ≤ 2 ^ 64)
IsShort (I.Lowered x) = x.width ≤ 64

abbrev pub AllShort : List StepIndex → Type 0
AllShort [] = ⊤
AllShort (x ∷ xs) = IsShort x × AllShort xs

-- The reading of an element, and of so many elements from an index on, from that of what they are selected from.
abbrev pub ReadsElementBy : Reading → SvType → StepIndex → List Helper → Reading → Type 0
ReadsElementBy old t x hs r = (e from i : S.Meaning) (a : Around) (sc : Scope) (v : Valuation) → from.of ≡ layout t → IsStep e from a (element_of from.of (P.index_of i a))
    → S.wide e ≡ length from.of.element.two_state → 1 ≤ S.wide e → 1 ≤ S.wide from → IsIndexBy x i a sc v → EachHelps hs sc → Reads old from a sc v → Reads r e a sc v

abbrev pub ReadsSlideBy : Reading → SvType → Bool → ℕ → StepIndex → List Helper → Reading → Type 0
ReadsSlideBy old t up n x hs r = (e from i : S.Meaning) (a : Around) (sc : Scope) (v : Valuation) → from.of ≡ layout t → IsStep e from a (slide from.of up n (P.index_of i a))
    → S.wide e ≡ n * length from.of.element.two_state → 1 ≤ S.wide e → 1 ≤ S.wide from → IsIndexBy x i a sc v → EachHelps hs sc → Reads old from a sc v → Reads r e a sc v

-- the reading of an element of what is a memory of this name
abbrev pub ReadsWordBy : Name → SvType → StepIndex → Reading → Type 0
ReadsWordBy memory t x r = (e from i : S.Meaning) (a : Around) (sc : Scope) (v : Valuation) → from.of ≡ layout t → IsPath e a → IsStep e from a (element_of from.of (P.index_of i a))
    → S.wide e ≡ length from.of.element.two_state → count_of from.of.left from.of.right * length from.of.element.two_state ≡ S.wide from
    → IsMemory from a (named sc.names memory) v → IsIndexBy x i a sc v → Reads r e a sc v

-- they name what was named before and what the index does
abbrev pub NamesStep : Reading → StepIndex → Reading → Type 0
NamesStep old x r = (sc : Scope) → SameNumbers (root_names old.root sc ++ index_names x sc) (root_names r.root sc)

abbrev pub NamesWordBy : Name → StepIndex → Reading → Type 0
NamesWordBy memory x r = (sc : Scope) → SameNumbers ((named sc.names memory).number ∷ index_names x sc) (root_names r.root sc)
