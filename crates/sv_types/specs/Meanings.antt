-- What an expression means: its value at each width and sign (IEEE 1800-2017 clauses 11.6 to 11.8), what it names as a
-- select path, and what a process that values it reads.
use Rattle.std.specs.Prelude.{ℕ, ◌+◌, max, Bool, true, false, ◌&&◌, ◌==◌, nat_lt, cond, List, [], ◌∷◌, ◌++◌, length, take, map, flat_map, Option, Some, None}
use Rattle.std.specs.List.{list_all}
use Rattle.b4_core.specs.declared.bit.Bit4.{Bit4}
use Rattle.b4_core.specs.Vectors.{ext}
use Rattle.picks.specs.RowMachine.{Changes}
use Rattle.picks.specs.RowMachine.{unchanged}
use Rattle.sv_types.specs.Layouts.{Layout, stored}
use Rattle.sv_types.specs.Windows.{Window, whole, seen, written}
use Rattle.sv_types.specs.Surroundings.{Around, Tally, Stop, stopped, onward, Use, Write, Sight, is_signal, Parameter}

-- the longest prefix of a path whose indices are known, and whether it is the whole path
pub record Prefix : Type 0 where
  pub window : Window
  pub exact : Bool

-- a signal or local that is named, with its type as the expression has it
pub record Named : Type 0 where
  pub number : ℕ
  pub of : Layout

pub record Meaning : Type 0 where
  -- the type: its width and sign are the self-determined ones
  pub of : Layout
  -- the first token
  pub at : ℕ
  -- the value at the width and sign of the context
  pub value : ℕ → Bool → Around → List Bit4
  -- the value as it is given to a target of so many bits
  pub given : ℕ → Around → List Bit4
  -- whether it is a stream
  pub streams : Bool
  -- the signal or local that a path stands on, if it stands on one, and the bits of what it stands on
  pub root : Option ℕ
  pub base : Around → List Bit4
  -- which of these bits the path names, and what a write of bits through it changes
  pub window : Around → Window
  pub puts : Around → List Bit4 → Changes
  -- what valuing it takes, and what it takes to value the indices of a target
  pub values : Around → Tally → Tally
  pub places : Around → Tally → Tally
  -- what is known of it before a run: whether its value is, which bits the path names as far as its indices are known,
  -- what its value reads, and what it reads and writes as a target
  pub constant : Sight → Bool
  pub prefix : Sight → Prefix
  pub reads : Sight → List Use
  pub indices : Sight → List Use
  pub writes : Sight → List Write
  -- the signals and locals that it names, and those that only its indices name
  pub names : List Named
  pub index_names : List Named
  -- the signals and locals that it names as a target
  pub roots : List ℕ
  -- the greatest widths: of arithmetic in a context, of an index, of any type; and how many types in it aren't those that
  -- its parts give it
  pub arithmetic : (ℕ → List Parameter) → ℕ → ℕ
  pub indexing : ℕ
  pub widest : ℕ
  pub misfits : ℕ

-- the self-determined width and sign
abbrev pub wide : Meaning → ℕ
wide m = length m.of.two_state

abbrev pub signed : Meaning → Bool
signed m = m.of.signed

-- the value alone
abbrev pub alone : Meaning → Around → List Bit4
alone m a = m.value (wide m) (signed m) a

-- Assignment (clause 10.7): the right side has the larger of both widths and its own sign, and is cut to the target's width.
abbrev pub cut_to : ℕ → ℕ → Bool → (ℕ → Bool → Around → List Bit4) → Around → List Bit4
cut_to n w s value a = take n (value (max n w) s a)

-- an operand, and the width that it has in a context of some width
pub record Operand : Type 0 where
  pub of : Meaning
  pub at : ℕ → ℕ

-- an operand that is valued alone
abbrev pub by_itself : Meaning → Operand
by_itself m = record { of = m; at = λ w. wide m }

-- an operand that takes the width of the context
abbrev pub in_context : Meaning → Operand
in_context m = record { of = m; at = λ w. w }

-- an operand that is valued at a width
abbrev pub at_width : ℕ → Meaning → Operand
at_width n m = record { of = m; at = λ w. n }

-- operands are valued from left to right
abbrev pub values_all : List Operand → Around → Tally → Tally
values_all [] a t = t
values_all (p ∷ ps) a t = onward (values_all ps a) (p.of.values a t)

abbrev pub most : List ℕ → ℕ
most [] = 0
most (n ∷ ns) = max n (most ns)

abbrev pub total : List ℕ → ℕ
total [] = 0
total (n ∷ ns) = n + total ns

abbrev pub same_sign : Bool → Bool → Bool
same_sign true b = b
same_sign false b = cond b false true

-- 0 where a type has the width and sign that a rule gives, else 1
abbrev pub misfit : Layout → ℕ → Bool → ℕ
misfit of w s = cond ((length of.two_state == w) && same_sign of.signed s) 0 1

-- 0 where a type has a bit, as each type of the language does, else 1
abbrev pub without_bits : Layout → ℕ
without_bits of = cond (nat_lt 0 (length of.two_state)) 0 1

-- An expression that is no path: its type and token, the width and sign that the rules give it (clause 11.6.1, table 11-21),
-- the width of its own arithmetic in a context, its operands and its value.
abbrev pub plain : Layout → ℕ → ℕ → Bool → (ℕ → ℕ) → List Operand → (ℕ → Bool → Around → List Bit4) → Meaning
plain of at w s own operands value =
    let n = length of.two_state in
    let sure = λ (k : Sight). list_all (λ (p : Operand). p.of.constant k) operands in
    record {
      of = of;
      at = at;
      value = value;
      given = λ m a. cut_to m n of.signed value a;
      streams = false;
      root = None;
      base = λ a. value n of.signed a;
      window = λ a. whole n;
      puts = λ a b. unchanged;
      values = values_all operands;
      places = values_all operands;
      constant = sure;
      prefix = λ k. record { window = whole n; exact = sure k };
      reads = λ k. flat_map (λ (p : Operand). p.of.reads k) operands;
      indices = λ k. flat_map (λ (p : Operand). p.of.reads k) operands;
      writes = λ k. [];
      names = flat_map (λ (p : Operand). p.of.names) operands;
      index_names = flat_map (λ (p : Operand). p.of.names) operands;
      roots = [];
      arithmetic = λ fs c. max (own c) (most (map (λ (p : Operand). p.of.arithmetic fs (p.at c)) operands));
      indexing = most (map (λ (p : Operand). p.of.indexing) operands);
      widest = max n (most (map (λ (p : Operand). p.of.widest) operands));
      misfits = without_bits of + (misfit of w s + total (map (λ (p : Operand). p.of.misfits) operands));
    }

-- the bits that the prefix of a path names, if it stands on a signal or local
abbrev pub use_of : Option ℕ → ℕ → Prefix → List Use
use_of None at p = []
use_of (Some n) at p = record { number = n; low = p.window.low; high = p.window.high; at = at } ∷ []

-- whether all that a path stands on is sure: a loop variable is sure whole or not at all
abbrev pub root_sure : Option ℕ → Sight → Bool
root_sure None k = true
root_sure (Some n) k = k.sure (record { signal = n; bit = 0 })

abbrev pub roots_of : Option ℕ → List ℕ
roots_of None = []
roots_of (Some n) = n ∷ []

abbrev pub writes_of : Bool → List Use → List Write
writes_of exact us = map (λ u. record { of = u; exact = exact }) us

abbrev pub written_at : Option ℕ → Window → List Bit4 → Changes
written_at None path bits = unchanged
written_at (Some n) path bits = written n path bits

-- what a select path is made of: its root and what it holds, the bits that it names now and as far as is known, and its
-- indices
pub record Path : Type 0 where
  pub root : Option ℕ
  pub base : Around → List Bit4
  pub window : Around → Window
  pub prefix : Sight → Prefix
  pub places : Around → Tally → Tally
  pub constant_base : Sight → Bool
  pub indices : Sight → List Use
  pub index_names : List Named
  pub root_names : List Named
  pub arithmetic : (ℕ → List Parameter) → ℕ
  pub indexing : ℕ
  pub widest : ℕ
  pub misfits : ℕ

-- reading a signal that isn't held stops the run
abbrev pub reads_root : Option ℕ → ℕ → Around → Tally → Tally
reads_root None at a t = t
reads_root (Some n) at a t = cond (is_signal n) (cond (a.holds n) t (stopped (Stop.NotHeld at) t)) t

-- A select path of a type: its bits are read from those of its root, and stored as its type stores them.
abbrev pub selected : Layout → ℕ → Path → Meaning
selected of at p =
    let n = length of.two_state in
    let value = λ (w : ℕ) (s : Bool) (a : Around). ext w s (stored of.two_state (seen (p.base a) (p.window a) n)) in
    record {
      of = of;
      at = at;
      value = value;
      given = λ m a. cut_to m n of.signed value a;
      streams = false;
      root = p.root;
      base = p.base;
      window = p.window;
      puts = λ a b. written_at p.root (p.window a) (stored of.two_state b);
      values = λ a t. onward (p.places a) (reads_root p.root at a t);
      places = p.places;
      constant = λ k. (p.prefix k).exact && (p.constant_base k && root_sure p.root k);
      prefix = p.prefix;
      reads = λ k. cond (root_sure p.root k) [] (use_of p.root at (p.prefix k)) ++ p.indices k;
      indices = p.indices;
      writes = λ k. writes_of (p.prefix k).exact (use_of p.root at (p.prefix k));
      names = p.root_names ++ p.index_names;
      index_names = p.index_names;
      roots = roots_of p.root;
      arithmetic = λ fs c. p.arithmetic fs;
      indexing = p.indexing;
      widest = max n p.widest;
      misfits = without_bits of + p.misfits;
    }
