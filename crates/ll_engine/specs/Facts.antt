use Rattle.std.specs.Prelude.{◌≡◌, ◌+◌, ◌||◌, ◌&&◌, not, max, ℕ, List, [], ◌∷◌, Option, Some, None, Bool, true, false, cond, nat_eq, is_none, slice_get, slice_index_or, length}
use Rattle.ll_engine.specs.declared.table.Part.{Part}
use Rattle.ll_engine.specs.declared.table.Part.TheVariants.{Term, Non, Maybe, Many, Chain}
use Rattle.ll_engine.specs.declared.table.Row.{Row}
use Rattle.ll_engine.specs.declared.tables.Head.{Head}
use Rattle.ll_engine.specs.declared.facts.Facts.{Facts}
use Rattle.ll_engine.specs.declared.facts.SymbolFacts.{SymbolFacts}
use Rattle.ll_engine.specs.declared.derive.Target.TheVariants.{Symbol, Head as HeadOf}
use Rattle.ll_engine.specs.Class.{Leads}
use Rattle.ll_engine.specs.Grammar.{named, is_repeated, IsRowOf}
use Rattle.ll_engine.specs.Knows.{row_begun, row_blank}
use Rattle.ll_engine.specs.Marks.{marked, AreMarks}
use Rattle.ll_engine.specs.Rules.{may_skip, front, ground_rules, start_rules, lead_rules, follow_rules}

-- a row of the head leads with the symbol
pub record RowLeads (t : List Row) (a h : ℕ) : Type 0 where
  pub at : ℕ
  pub row : Row
  pub is_row : IsRowOf t h at row
  pub leads : Leads t row.parts a

-- what is marked for the symbol
pub record AreSymbolFacts (t : List Row) (blank : List Bool) (a : ℕ) (f : SymbolFacts) : Type 0 where
  pub begins : AreMarks (start_rules blank (Symbol a) t) f.begins
  pub leads : AreMarks (lead_rules blank a t) f.leads
  pub follows : AreMarks (follow_rules blank f.leads a t) f.follows

-- a number above all symbols of the parts, and of the rows
abbrev pub widest : List Part → ℕ → ℕ
widest [] n = n
widest (Term a ∷ ps) n = widest ps (max n (a + 1))
widest (Non h ∷ ps) n = widest ps n
widest (Maybe h ∷ ps) n = widest ps n
widest (Many h ∷ ps) n = widest ps n
widest (Chain h ∷ ps) n = widest ps n

abbrev pub width : List Row → ℕ → ℕ
width [] n = n
width (row ∷ rows) n = width rows (widest row.parts n)

-- a number above all heads of the rows
abbrev pub head_count : List Row → ℕ → ℕ
head_count [] n = n
head_count (row ∷ rows) n = head_count rows (max n (row.head + 1))

pub record AreFacts (t : List Row) (f : Facts) : Type 0 where
  pub text : AreMarks (ground_rules true t) f.text
  pub blank : AreMarks (ground_rules false t) f.blank
  pub long : length f.symbols ≡ width t 0
  pub symbols : (a : ℕ) (s : SymbolFacts) → slice_get f.symbols a ≡ Some s → AreSymbolFacts t f.blank a s
  pub reached : length f.reaches ≡ length t
  pub reaches : (i : ℕ) (row : Row) → slice_get t i ≡ Some row
      → AreMarks (start_rules f.blank (HeadOf row.head) t) (slice_index_or f.reaches i [])

-- whether the symbol begins the parts, by the heads that it begins
abbrev pub begun : List Bool → List Bool → ℕ → List Part → Bool
begun blank begins a [] = false
begun blank begins a (Term x ∷ ps) = nat_eq x a
begun blank begins a (Non g ∷ ps) = marked begins g || (marked blank g && begun blank begins a ps)
begun blank begins a (Maybe g ∷ ps) = marked begins g || begun blank begins a ps
begun blank begins a (Many g ∷ ps) = marked begins g || begun blank begins a ps
begun blank begins a (Chain g ∷ ps) = marked begins g || begun blank begins a ps

-- the first row of the head that the symbol begins, the rows being numbered from `n`
abbrev pub first_begun : List Bool → List Bool → ℕ → ℕ → List Row → ℕ → Option ℕ
first_begun blank begins a h [] n = None
first_begun blank begins a h (row ∷ rows) n =
    cond (nat_eq row.head h && begun blank begins a row.parts) (Some n) (first_begun blank begins a h rows (n + 1))

abbrev pub first_blank : List Bool → ℕ → List Row → ℕ → Option ℕ
first_blank blank h [] n = None
first_blank blank h (row ∷ rows) n =
    cond (nat_eq row.head h && is_none (front blank row.parts)) (Some n) (first_blank blank h rows (n + 1))

abbrev pub begun_rows : List Bool → ℕ → List Row → List SymbolFacts → ℕ → List (Option ℕ)
begun_rows blank h rows [] n = []
begun_rows blank h rows (s ∷ ss) n = first_begun blank s.begins n h rows 0 ∷ begun_rows blank h rows ss (n + 1)

abbrev pub rank_in : List (List Bool) → ℕ → ℕ
rank_in [] h = 0
rank_in (m ∷ ms) h = cond (marked m h) 1 0 + rank_in ms h

abbrev pub head_of : List Row → Facts → ℕ → Head
head_of t f h = record {
  begun = begun_rows f.blank h t f.symbols 0;
  blank = first_blank f.blank h t 0;
  rank = rank_in f.reaches h;
}

-- what is kept of each head
pub record AreHeads (t : List Row) (f : Facts) (heads : List Head) : Type 0 where
  pub count : length heads ≡ head_count t 0
  pub each : (h : ℕ) (x : Head) → slice_get heads h ≡ Some x → x ≡ head_of t f h

abbrev pub is_same : Option ℕ → ℕ → Bool
is_same None i = false
is_same (Some x) i = nat_eq x i

-- each symbol that begins the parts of the row `i` is kept with this row
abbrev pub alone : List Bool → List Head → ℕ → ℕ → List Part → List SymbolFacts → ℕ → Bool
alone blank heads i h parts [] n = true
alone blank heads i h parts (s ∷ ss) n =
    (not (begun blank s.begins n parts) || is_same (row_begun heads h n) i) && alone blank heads i h parts ss (n + 1)

abbrev pub blank_alone : List Bool → List Head → ℕ → ℕ → List Part → Bool
blank_alone blank heads i h parts = not (is_none (front blank parts)) || is_same (row_blank heads h) i

-- the alternatives of the head are told apart, the rows being numbered from `n`
abbrev pub apart : Facts → List Head → ℕ → List Row → ℕ → Bool
apart f heads h [] n = true
apart f heads h (row ∷ rows) n =
    (not (nat_eq row.head h) || (blank_alone f.blank heads n h row.parts && alone f.blank heads n h row.parts f.symbols 0))
    && apart f heads h rows (n + 1)

-- whether the symbol comes at the parts that are left of a row of the head
abbrev pub comes : SymbolFacts → ℕ → ℕ → Option Part → Bool
comes s a h None = marked s.follows h
comes s a h (Some (Term x)) = nat_eq x a
comes s a h (Some (Non m)) = marked s.leads m
comes s a h (Some (Maybe m)) = false
comes s a h (Some (Many m)) = false
comes s a h (Some (Chain m)) = false

abbrev pub decided : List Bool → ℕ → Part → List Part → List SymbolFacts → ℕ → Bool
decided blank h p ps [] n = true
decided blank h p ps (s ∷ ss) n =
    not (begun blank s.begins n (p ∷ []) && comes s n h (front blank ps)) && decided blank h p ps ss (n + 1)

abbrev pub has_row : List Row → ℕ → Bool
has_row [] h = false
has_row (row ∷ rows) h = nat_eq row.head h || has_row rows h

abbrev pub name_keeps : List Row → Facts → ℕ → Part → List Part → Option ℕ → Bool
name_keeps t f h p ps None = true
name_keeps t f h p ps (Some g) =
    has_row t g && (not (is_repeated p && marked f.blank g) && (not (may_skip f.blank p) || decided f.blank h p ps f.symbols 0))

abbrev pub parts_keep : List Row → Facts → ℕ → List Part → Bool
parts_keep t f h [] = true
parts_keep t f h (p ∷ ps) = name_keeps t f h p ps (named p) && parts_keep t f h ps

-- whether neither the row's head nor one of its parts breaks the class
abbrev pub row_keeps : List Row → Facts → List Head → ℕ → Row → Bool
row_keeps t f heads i row =
    marked f.text row.head
    && (not (marked (slice_index_or f.reaches i []) row.head)
    && (apart f heads row.head t 0 && parts_keep t f row.head row.parts))

-- the first of the rows that breaks the class, the rows being numbered from `n`
abbrev pub first_break : List Row → Facts → List Head → List Row → ℕ → Option ℕ
first_break t f heads [] n = None
first_break t f heads (row ∷ rows) n =
    cond (row_keeps t f heads n row) (first_break t f heads rows (n + 1)) (Some n)
