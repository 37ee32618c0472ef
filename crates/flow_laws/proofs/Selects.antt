-- Select paths, step by step.
use Rattle.std.proofs.Common.{◌≡◌, ℕ, ◌+◌, max, Bool, true, false, ◌&&◌, ◌||◌, cond, ℤ, [], ◌++◌, length, Option, Some, None, refl, ap, sym, ◌∙◌, subst}
use Rattle.std.specs.Prelude.{slice_get}
use Rattle.std.proofs.lemmas.Bool.{false≢true, and_parts, eq-eqb}
use Rattle.b4_core.specs.Vectors.{ext, known, number}
use Rattle.row_machine.specs.Places.{vector_at}
use Rattle.sv_types.specs.Layouts.{Layout, stored}
use Rattle.sv_types.specs.Windows.{Window, within, seen, member_of, element_of, between, slide}
use Rattle.sv_types.specs.Surroundings.{Around, Sight, local_number, onward}
use Rattle.sv_types.specs.Meanings.{Meaning, Path, Prefix, selected, use_of, wide, signed, cut_to}
use Rattle.sv_types.specs.Paths as P
use Rattle.sv_types.specs.Paths.{root_path, known_base, names_of_root, narrowed, places_from, reads_from, index_of}
use Rattle.sv_types.specs.Flows.{covered}
use Rattle.flow_laws.specs.Hangs.{Seen, Agree, Same, Inside, Stands, Moves, Hangs}
use Rattle.flow_laws.proofs.Agreeing as A

-- a sight sees its own surroundings
pub sees-itself : (k : Sight) → Seen k k.around
sees-itself k = record { sure = λ n j h. refl; callee = refl }

-- what is known of the bits that a path names
pub record PathMoves (p : Path) : Type 0 where
  pub window : (k : Sight) (a b : Around) → Seen k a → Seen k b → Agree (p.indices k) a b → p.window a ≡ p.window b
  pub within : (k : Sight) (a : Around) → Seen k a → Inside (p.window a) (p.prefix k).window
  pub exact : (k : Sight) (a : Around) → Seen k a → (p.prefix k).exact ≡ true → p.window a ≡ (p.prefix k).window
  pub known : (k : Sight) → (p.prefix k).exact ≡ true → p.constant_base k ≡ true → p.indices k ≡ []

value-same : (of : Layout) (at : ℕ) (p : Path) (a b : Around) → seen (p.base a) (p.window a) (length of.two_state) ≡ seen (p.base b) (p.window b) (length of.two_state) → Same (selected of at p) a b
value-same of at p a b is = record {
  value = λ w s. ap (λ v. ext w s (stored of.two_state v)) is;
  given = λ m. ap (λ v. cut_to m (length of.two_state) of.signed (λ w s c. ext w s (stored of.two_state v)) a) is;
}

-- a path on a value
pub none-hangs : (of : Layout) (at : ℕ) (p : Path)
    → ((k : Sight) (a b : Around) → Seen k a → Seen k b → Agree (p.indices k) a b → p.base a ≡ p.base b)
    → PathMoves p → Hangs (selected of at (record p { root = None }))
none-hangs of at p base m = record {
  same = λ k a b sa sb agree.
      value-same of at (record p { root = None }) a b
      (ap (λ h. seen h (p.window a) (length of.two_state)) (base k a b sa sb agree) ∙ ap (λ path. seen (p.base b) path (length of.two_state)) (m.window k a b sa sb agree));
  constant = λ k is. let parts = and_parts (p.prefix k).exact (p.constant_base k && true) is in m.known k parts.0 (and_parts (p.constant_base k) true parts.1).0;
  stands = base;
  moves = record {
    window = m.window;
    within = m.within;
    exact = m.exact;
    known = λ k exact is. let parts = and_parts (p.prefix k).exact (p.constant_base k && true) is in m.known k exact (and_parts (p.constant_base k) true parts.1).0;
  };
}

-- a path on a signal or local
pub some-hangs : (of : Layout) (at : ℕ) (p : Path) (n bits : ℕ) → ((a : Around) → p.base a ≡ vector_at a.now n bits) → ((k : Sight) → p.constant_base k ≡ true) → PathMoves p
    → Hangs (selected of at (record p { root = Some n }))
some-hangs of at p n bits base base_known m = record {
  same = λ k a b sa sb agree. value-same of at (record p { root = Some n }) a b (same k a b sa sb agree);
  constant = λ k is.
      let parts = and_parts (p.prefix k).exact (p.constant_base k && k.sure (record { signal = n; bit = 0 })) is in
      ap (λ c. cond c [] (use_of (Some n) at (p.prefix k)) ++ p.indices k) (and_parts (p.constant_base k) (k.sure (record { signal = n; bit = 0 })) parts.1).1 ∙ m.known k parts.0 (base_known k);
  stands = record { bits = bits; base = base };
  moves = record { window = m.window; within = m.within; exact = m.exact; known = λ k exact is. m.known k exact (base_known k) };
}
  where
    covered-here : (k : Sight) (q : ℕ) → within (p.prefix k).window q ≡ true → covered (use_of (Some n) at (p.prefix k)) (record { signal = n; bit = q }) ≡ true
    covered-here k q is =
        ap (λ c. (c && within (p.prefix k).window q) || false) (eq-eqb n n refl) ∙ ap (λ c. c || false) is

    held : (k : Sight) (a b : Around) → Seen k a → Seen k b → (c : Bool) → k.sure (record { signal = n; bit = 0 }) ≡ c
        → Agree (cond c [] (use_of (Some n) at (p.prefix k)) ++ p.indices k) a b → (q : ℕ) → within (p.window a) q ≡ true
        → a.now (record { signal = n; bit = q }) ≡ b.now (record { signal = n; bit = q })
    held k a b sa sb true sure agree q inside = sa.sure n q sure ∙ sym (sb.sure n q sure)
    held k a b sa sb false sure agree q inside =
        A.agree-left (use_of (Some n) at (p.prefix k)) (p.indices k) a b agree (record { signal = n; bit = q }) (covered-here k q (m.within k a sa q inside))

    same : (k : Sight) (a b : Around) → Seen k a → Seen k b
        → Agree (cond (k.sure (record { signal = n; bit = 0 })) [] (use_of (Some n) at (p.prefix k)) ++ p.indices k) a b
        → seen (p.base a) (p.window a) (length of.two_state) ≡ seen (p.base b) (p.window b) (length of.two_state)
    same k a b sa sb agree =
        let uses = cond (k.sure (record { signal = n; bit = 0 })) [] (use_of (Some n) at (p.prefix k)) in
        ap (λ h. seen h (p.window a) (length of.two_state)) (base a)
        ∙ A.same-seen a.now b.now n bits (length of.two_state) (p.window a) (λ q low. held k a b sa sb (k.sure (record { signal = n; bit = 0 })) refl agree q)
        ∙ ap (λ path. seen (vector_at b.now n bits) path (length of.two_state)) (m.window k a b sa sb (A.agree-right uses (p.indices k) a b agree))
        ∙ ap (λ h. seen h (p.window b) (length of.two_state)) (sym (base b))

root-moves : (n : ℕ) (of : Layout) → PathMoves (root_path n of)
root-moves n of = record {
  window = λ k a b sa sb agree. refl;
  within = λ k a sa j h. h;
  exact = λ k a sa is. refl;
  known = λ k is g. refl;
}

pub signal-hangs : (of : Layout) (at n : ℕ) → Hangs (P.signal of at n)
unfolding P.signal
signal-hangs of at n = some-hangs of at (root_path n of) n (length of.two_state) (λ a. refl) (λ k. refl) (root-moves n of)

pub local-hangs : (of : Layout) (at n : ℕ) → Hangs (P.local of at n)
unfolding P.local
local-hangs of at n =
    some-hangs of at (root_path (local_number n) of) (local_number n) (length of.two_state) (λ a. refl) (λ k. refl) (root-moves (local_number n) of)

-- a step by what it stands on
abbrev fixed_by : Option ℕ → (Window → Window) → ℕ → Meaning → Path
fixed_by r step misfits from = record {
  root = r;
  base = from.base;
  window = λ a. step (from.window a);
  prefix = λ k. narrowed step (from.prefix k);
  places = places_from r from;
  constant_base = λ k. known_base r (from.constant k);
  indices = reads_from r from;
  index_names = from.index_names;
  root_names = names_of_root r from.names;
  arithmetic = λ fs. from.arithmetic fs (wide from);
  indexing = from.indexing;
  widest = from.widest;
  misfits = misfits + from.misfits;
}

abbrev indexed_by : Option ℕ → (Option ℤ → Window → Window) → ℕ → Meaning → Meaning → Path
indexed_by r step misfits from i = record {
  root = r;
  base = from.base;
  window = λ a. step (index_of i a) (from.window a);
  prefix = λ k. cond (i.constant k) (narrowed (step (index_of i k.around)) (from.prefix k)) (record { window = (from.prefix k).window; exact = false });
  places = λ a t. onward (i.values a) (places_from r from a t);
  constant_base = λ k. known_base r (from.constant k);
  indices = λ k. reads_from r from k ++ i.reads k;
  index_names = from.index_names ++ i.names;
  root_names = names_of_root r from.names;
  arithmetic = λ fs. max (from.arithmetic fs (wide from)) (i.arithmetic fs (wide i));
  indexing = max (wide i) (max from.indexing i.indexing);
  widest = max from.widest i.widest;
  misfits = misfits + (from.misfits + i.misfits);
}

-- a prefix goes on while it is exact
narrow-inside : (step : Window → Window) → ((path : Window) → Inside (step path) path) → (p : Prefix) (now : Window) → Inside now p.window → (p.exact ≡ true → now ≡ p.window) → Inside (step now) (narrowed step p).window
narrow-inside step inside p now within exact = by p.exact refl
  where
    by : (b : Bool) → p.exact ≡ b → Inside (step now) (cond {A = Prefix} b (record { window = step p.window; exact = true }) p).window
    by true is = subst (λ w. Inside (step now) (step w)) (exact is) (λ j h. h)
    by false is = λ j h. within j (inside now j h)

narrow-exact : (step : Window → Window) (p : Prefix) (now : Window) → (p.exact ≡ true → now ≡ p.window) → (narrowed step p).exact ≡ true → step now ≡ (narrowed step p).window
narrow-exact step p now exact = by p.exact refl
  where
    by : (b : Bool) → p.exact ≡ b → (cond {A = Prefix} b (record { window = step p.window; exact = true }) p).exact ≡ true → step now ≡ (cond {A = Prefix} b (record { window = step p.window; exact = true }) p).window
    by true is h = ap step (exact is)
    by false is h = absurd (false≢true (sym is ∙ h))

narrow-was : (step : Window → Window) (p : Prefix) → (narrowed step p).exact ≡ true → p.exact ≡ true
narrow-was step p = by p.exact refl
  where
    by : (b : Bool) → p.exact ≡ b → (cond {A = Prefix} b (record { window = step p.window; exact = true }) p).exact ≡ true → p.exact ≡ true
    by true is h = is
    by false is h = h

fixed-moves : (r : Option ℕ) (step : Window → Window) (misfits : ℕ) (from : Meaning) → ((path : Window) → Inside (step path) path) → Stands r from → Moves r from → PathMoves (fixed_by r step misfits from)
fixed-moves r step misfits from inside s m = record {
  window = λ k a b sa sb agree. ap step (m.window k a b sa sb agree);
  within = λ k a sa.
      narrow-inside step inside (from.prefix k) (from.window a) (m.within k a sa) (m.exact k a sa);
  exact = λ k a sa is. narrow-exact step (from.prefix k) (from.window a) (m.exact k a sa) is;
  known = λ k is g. m.known k (narrow-was step (from.prefix k) is) g;
}

pub fixed-hangs : (of : Layout) (at : ℕ) (r : Option ℕ) (step : Window → Window) (misfits : ℕ) (from : Meaning) → ((path : Window) → Inside (step path) path) → Stands r from → Moves r from
    → Hangs (selected of at (fixed_by r step misfits from))
fixed-hangs of at None step misfits from inside s m =
    none-hangs of at (fixed_by None step misfits from) (λ k a b sa sb agree. s k a b sa sb agree) (fixed-moves None step misfits from inside s m)
fixed-hangs of at (Some n) step misfits from inside s m =
    some-hangs of at (fixed_by (Some n) step misfits from) n s.bits s.base (λ k. refl) (fixed-moves (Some n) step misfits from inside s m)

index-same : (i : Meaning) (a b : Around) → Same i a b → index_of i a ≡ index_of i b
index-same i a b s = ap (λ v. cond (known v) (Some (number (signed i) v)) None) (s.value (wide i) (signed i))

-- an index that is known
index-known : (k : Sight) (a : Around) (i : Meaning) → Hangs i → Seen k a → i.constant k ≡ true → index_of i a ≡ index_of i k.around
index-known k a i h sa is = index-same i a k.around (h.same k a k.around sa (sees-itself k) (A.agree-none (i.reads k) a k.around (h.constant k is)))

indexed-moves : (r : Option ℕ) (step : Option ℤ → Window → Window) (misfits : ℕ) (from i : Meaning) → ((o : Option ℤ) (path : Window) → Inside (step o path) path) → Stands r from → Moves r from → Hangs i
    → PathMoves (indexed_by r step misfits from i)
indexed-moves r step misfits from i inside s m h = record {
  window = λ k a b sa sb agree.
      ap (λ o. step o (from.window a)) (index-same i a b (h.same k a b sa sb (A.agree-right (reads_from r from k) (i.reads k) a b agree)))
      ∙ ap (step (index_of i b)) (m.window k a b sa sb (A.agree-left (reads_from r from k) (i.reads k) a b agree));
  within = λ k a sa. within-by k a sa (i.constant k) refl;
  exact = λ k a sa. exact-by k a sa (i.constant k) refl;
  known = λ k is g. known-by k g (i.constant k) refl is;
}
  where
    within-by : (k : Sight) (a : Around) → Seen k a → (c : Bool) → i.constant k ≡ c
        → Inside (step (index_of i a) (from.window a)) (cond {A = Prefix} c (narrowed (step (index_of i k.around)) (from.prefix k)) (record { window = (from.prefix k).window; exact = false })).window
    within-by k a sa true is =
        subst (λ o. Inside (step o (from.window a)) (narrowed (step (index_of i k.around)) (from.prefix k)).window) (sym (index-known k a i h sa is))
        (narrow-inside (step (index_of i k.around)) (inside (index_of i k.around)) (from.prefix k) (from.window a) (m.within k a sa) (m.exact k a sa))
    within-by k a sa false is = λ j in_step. m.within k a sa j (inside (index_of i a) (from.window a) j in_step)

    exact-by : (k : Sight) (a : Around) → Seen k a → (c : Bool) → i.constant k ≡ c
        → (cond {A = Prefix} c (narrowed (step (index_of i k.around)) (from.prefix k)) (record { window = (from.prefix k).window; exact = false })).exact ≡ true
        → step (index_of i a) (from.window a) ≡ (cond {A = Prefix} c (narrowed (step (index_of i k.around)) (from.prefix k)) (record { window = (from.prefix k).window; exact = false })).window
    exact-by k a sa true is exact =
        ap (λ o. step o (from.window a)) (index-known k a i h sa is) ∙ narrow-exact (step (index_of i k.around)) (from.prefix k) (from.window a) (m.exact k a sa) exact
    exact-by k a sa false is exact = absurd (false≢true exact)

    known-by : (k : Sight) → known_base r (from.constant k) ≡ true → (c : Bool) → i.constant k ≡ c
        → (cond {A = Prefix} c (narrowed (step (index_of i k.around)) (from.prefix k)) (record { window = (from.prefix k).window; exact = false })).exact ≡ true → reads_from r from k ++ i.reads k ≡ []
    known-by k g true is exact = A.empty-left (reads_from r from k) (i.reads k) (m.known k (narrow-was (step (index_of i k.around)) (from.prefix k) exact) g) (h.constant k is)
    known-by k g false is exact = absurd (false≢true exact)

pub indexed-hangs : (of : Layout) (at : ℕ) (r : Option ℕ) (step : Option ℤ → Window → Window) (misfits : ℕ) (from i : Meaning) → ((o : Option ℤ) (path : Window) → Inside (step o path) path) → Stands r from → Moves r from → Hangs i
    → Hangs (selected of at (indexed_by r step misfits from i))
indexed-hangs of at None step misfits from i inside s m h =
    none-hangs of at (indexed_by None step misfits from i)
    (λ k a b sa sb agree. s k a b sa sb (A.agree-left (from.reads k) (i.reads k) a b agree)) (indexed-moves None step misfits from i inside s m h)
indexed-hangs of at (Some n) step misfits from i inside s m h =
    some-hangs of at (indexed_by (Some n) step misfits from i) n s.bits s.base (λ k. refl) (indexed-moves (Some n) step misfits from i inside s m h)

pub member-hangs : (of : Layout) (at : ℕ) (m : Meaning) (k : ℕ) → Hangs m → Hangs (P.member of at m k)
unfolding P.member
member-hangs of at m k h = fixed-hangs of at m.root (member_of (slice_get m.of.members k)) _ m (A.member-inside (slice_get m.of.members k)) h.stands h.moves

pub index-hangs : (of : Layout) (at : ℕ) (m i : Meaning) → Hangs m → Hangs i → Hangs (P.index of at m i)
unfolding P.index
index-hangs of at m i h g = indexed-hangs of at m.root (element_of m.of) _ m i (A.element-inside m.of) h.stands h.moves g

pub part-hangs : (of : Layout) (at : ℕ) (m : Meaning) (left right : ℤ) → Hangs m → Hangs (P.part_select of at m left right)
unfolding P.part_select
part-hangs of at m left right h = fixed-hangs of at m.root (between m.of left right) _ m (A.between-inside m.of left right) h.stands h.moves

pub sliding-hangs : (of : Layout) (at : ℕ) (m i : Meaning) (n : ℕ) (up : Bool) → Hangs m → Hangs i → Hangs (P.sliding of at m i n up)
unfolding P.sliding
sliding-hangs of at m i n up h g = indexed-hangs of at m.root (slide m.of up n) _ m i (A.slide-inside m.of up n) h.stands h.moves g
