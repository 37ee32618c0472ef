-- Select paths, step by step (IEEE 1800-2017 clauses 7.2.1, 7.4.5, 7.4.6 and 11.5.1).
use Rattle.std.specs.Prelude.{ℕ, ◌+◌, max, Bool, true, false, ◌&&◌, cond, ℤ, List, [], ◌∷◌, ◌++◌, length, Option, Some, None, slice_get}
use Rattle.b4_core.specs.Vectors.{known, number}
use Rattle.picks.specs.RowMachine.{vector_at}
use Rattle.sv_types.specs.Layouts.{Layout, Part, repeated, count_of}
use Rattle.sv_types.specs.Windows.{Window, whole, member_of, element_of, between, slide}
use Rattle.sv_types.specs.Surroundings.{onward, Around, Tally, Use, Sight, local_number}
use Rattle.sv_types.specs.Meanings.{Meaning, Prefix, Path, Named, wide, signed, alone, selected, same_sign}

-- a whole signal or local
abbrev pub root_path : ℕ → Layout → Path
root_path n of =
    let w = length of.two_state in
    record {
      root = Some n;
      base = λ a. vector_at a.now n w;
      window = λ a. whole w;
      prefix = λ k. record { window = whole w; exact = true };
      places = λ a t. t;
      constant_base = λ k. true;
      indices = λ k. [];
      index_names = [];
      root_names = record { number = n; of = of } ∷ [];
      arithmetic = λ fs. 0;
      indexing = 0;
      widest = 0;
      misfits = 0;
    }

-- whether what a path stands on is known, where that isn't a signal or local
abbrev pub known_base : Option ℕ → Bool → Bool
known_base None constant = constant
known_base (Some n) constant = true

-- the names of a path that aren't those of its indices
abbrev pub names_of_root : Option ℕ → List Named → List Named
names_of_root None names = []
names_of_root (Some n) [] = []
names_of_root (Some n) (x ∷ names) = x ∷ []

-- a prefix goes on while it is exact
abbrev pub narrowed : (Window → Window) → Prefix → Prefix
narrowed step p = cond p.exact (record { window = step p.window; exact = true }) p

-- what it takes to value what a step selects from, and what that reads: of a path its indices, and of anything else all of it
abbrev pub places_from : Option ℕ → Meaning → Around → Tally → Tally
places_from None from = from.values
places_from (Some n) from = from.places

abbrev pub reads_from : Option ℕ → Meaning → Sight → List Use
reads_from None from = from.reads
reads_from (Some n) from = from.indices

-- a step that needs no index, from what it selects
abbrev pub fixed_step : (Window → Window) → ℕ → Meaning → Path
fixed_step step misfits from = record {
  root = from.root;
  base = from.base;
  window = λ a. step (from.window a);
  prefix = λ k. narrowed step (from.prefix k);
  places = places_from from.root from;
  constant_base = λ k. known_base from.root (from.constant k);
  indices = reads_from from.root from;
  index_names = from.index_names;
  root_names = names_of_root from.root from.names;
  arithmetic = λ fs. from.arithmetic fs (wide from);
  indexing = from.indexing;
  widest = from.widest;
  misfits = misfits + from.misfits;
}

-- the number of an index, by its own sign, if no bit of it is x or z
abbrev pub index_of : Meaning → Around → Option ℤ
index_of i a = let v = alone i a in cond (known v) (Some (number (signed i) v)) None

-- a step by an index: the prefix ends before an index that isn't known
abbrev pub indexed_step : (Option ℤ → Window → Window) → ℕ → Meaning → Meaning → Path
indexed_step step misfits from i = record {
  root = from.root;
  base = from.base;
  window = λ a. step (index_of i a) (from.window a);
  prefix = λ k. cond (i.constant k) (narrowed (step (index_of i k.around)) (from.prefix k)) (record { window = (from.prefix k).window; exact = false });
  places = λ a t. onward (i.values a) (places_from from.root from a t);
  constant_base = λ k. known_base from.root (from.constant k);
  indices = λ k. reads_from from.root from k ++ i.reads k;
  index_names = from.index_names ++ i.names;
  root_names = names_of_root from.root from.names;
  arithmetic = λ fs. max (from.arithmetic fs (wide from)) (i.arithmetic fs (wide i));
  indexing = max (wide i) (max from.indexing i.indexing);
  widest = max from.widest i.widest;
  misfits = misfits + (from.misfits + i.misfits);
}

abbrev pub same_marks : List Bool → List Bool → Bool
same_marks [] [] = true
same_marks [] (b ∷ bs) = false
same_marks (a ∷ as_) [] = false
same_marks (a ∷ as_) (b ∷ bs) = same_sign a b && same_marks as_ bs

-- 0 where a type has the bits and the sign of what is selected, else 1
abbrev pub unlike : Layout → List Bool → Bool → ℕ
unlike of bits s = cond (same_marks of.two_state bits && same_sign of.signed s) 0 1

abbrev pub unlike_part : Layout → Option Part → ℕ
unlike_part of None = 1
unlike_part of (Some m) = unlike of m.two_state m.signed

abbrev pub elements_marks : Layout → ℕ → List Bool
elements_marks of n = repeated n of.element.two_state

unfoldable pub signal : Layout → ℕ → ℕ → Meaning
signal of at n = selected of at (root_path n of)

unfoldable pub local : Layout → ℕ → ℕ → Meaning
local of at n = selected of at (root_path (local_number n) of)

-- the member with a number
unfoldable pub member : Layout → ℕ → Meaning → ℕ → Meaning
member of at from k =
    let m = slice_get from.of.members k in
    selected of at (fixed_step (member_of m) (unlike_part of m) from)

-- an element by an index
unfoldable pub index : Layout → ℕ → Meaning → Meaning → Meaning
index of at from i =
    selected of at (indexed_step (element_of from.of) (unlike of from.of.element.two_state from.of.element.signed) from i)

-- `[left:right]` with constant bounds
unfoldable pub part_select : Layout → ℕ → Meaning → ℤ → ℤ → Meaning
part_select of at from left right =
    selected of at (fixed_step (between from.of left right) (unlike of (elements_marks from.of (count_of left right)) false) from)

-- `[i +: n]` and `[i -: n]`
unfoldable pub sliding : Layout → ℕ → Meaning → Meaning → ℕ → Bool → Meaning
sliding of at from i n up =
    selected of at (indexed_step (slide from.of up n) (unlike of (elements_marks from.of n) false) from i)
