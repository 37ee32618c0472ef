-- Expressions that are no paths.
use Rattle.std.proofs.Common.{◌≡◌, ℕ, max, Bool, true, false, List, [], ◌∷◌, map, flat_map, zip, length, take, refl, ap, sym, ◌∙◌, subst}
use Rattle.std.specs.List.{list_all}
use Rattle.std.proofs.lemmas.Bool.{and_parts}
use Rattle.b4_core.specs.declared.bit.Bit4.{Bit4}
use Rattle.b4_core.specs.Vectors.{ext}
use Rattle.b4_core.specs.Bitwise.{truth_of}
use Rattle.b4_core.specs.Compare.{order_value, equality}
use Rattle.sv_types.specs.Layouts.{Layout, Part, stacked, stored}
use Rattle.sv_types.specs.Surroundings.{Around, Sight, Parameter}
use Rattle.sv_types.specs.Meanings.{Meaning, Operand, plain, by_itself, at_width, wide, signed, alone}
use Rattle.sv_types.specs.Operators as O
use Rattle.sv_types.specs.Operators.{Alternative, joined, truth, equals, in_order, is_inside, inside_width, inside_operands, assigned_to, passed, with_parts, four_state, one_bit, both_wide}
pub use Rattle.flow_laws.specs.Hangs.{Seen, Agree, Same, Inside, Stands, Moves, Hangs}
use Rattle.flow_laws.proofs.Agreeing as A

-- all of them
abbrev pub AllHang : List Meaning → Type 0
AllHang [] = Unit {0}
AllHang (m ∷ ms) = Hangs m × AllHang ms

abbrev pub AllSame : List Meaning → Around → Around → Type 0
AllSame [] a b = Unit {0}
AllSame (m ∷ ms) a b = Same m a b × AllSame ms a b

abbrev pub operands_of : List Operand → List Meaning
operands_of ps = map (λ (p : Operand). p.of) ps

pub all-same : (ps : List Operand) (k : Sight) (a b : Around) → AllHang (operands_of ps) → Seen k a → Seen k b → Agree (flat_map (λ (p : Operand). p.of.reads k) ps) a b → AllSame (operands_of ps) a b
all-same [] k a b h sa sb agree = tt
all-same (p ∷ ps) k a b h sa sb agree = (
  h.0.same k a b sa sb (A.agree-left (p.of.reads k) (flat_map (λ (q : Operand). q.of.reads k) ps) a b agree),
  all-same ps k a b h.1 sa sb (A.agree-right (p.of.reads k) (flat_map (λ (q : Operand). q.of.reads k) ps) a b agree),
)

all-constant : (ps : List Operand) (k : Sight) → AllHang (operands_of ps) → list_all (λ (p : Operand). p.of.constant k) ps ≡ true → flat_map (λ (p : Operand). p.of.reads k) ps ≡ []
all-constant [] k h is = refl
all-constant (p ∷ ps) k h is =
    let parts = and_parts (p.of.constant k) (list_all (λ (q : Operand). q.of.constant k) ps) is in
    A.empty-left (p.of.reads k) (flat_map (λ (q : Operand). q.of.reads k) ps) (h.0.constant k parts.0) (all-constant ps k h.1 parts.1)

-- a value hangs on the operands' values and the functions
abbrev pub ByOperands : List Operand → (ℕ → Bool → Around → List Bit4) → Type 0
ByOperands ps value = (a b : Around) → a.callee ≡ b.callee → AllSame (operands_of ps) a b → (w : ℕ) (s : Bool) → value w s a ≡ value w s b

pub plain-hangs : (of : Layout) (at w : ℕ) (s : Bool) (own : ℕ → ℕ) (ps : List Operand) (value : ℕ → Bool → Around → List Bit4) → AllHang (operands_of ps) → ByOperands ps value → Hangs (plain of at w s own ps value)
plain-hangs of at w s own ps value h by = record {
  same = λ k a b sa sb agree.
      let is = by a b (sa.callee ∙ sym sb.callee) (all-same ps k a b h sa sb agree) in record {
        value = is;
        given = λ m. ap (λ v. take m v) (is (max m (length of.two_state)) of.signed);
      };
  constant = λ k is. all-constant ps k h is;
  stands = λ k a b sa sb agree. by a b (sa.callee ∙ sym sb.callee) (all-same ps k a b h sa sb agree) (length of.two_state) of.signed;
  moves = record {
    window = λ k a b sa sb agree. refl;
    within = λ k a sa j is. is;
    exact = λ k a sa is. refl;
    known = λ k is g. all-constant ps k h is;
  };
}

pub four-hangs : (of : Layout) (at w : ℕ) (s : Bool) (own : ℕ → ℕ) (ps : List Operand) (value : ℕ → Bool → Around → List Bit4) → AllHang (operands_of ps) → ByOperands ps value → Hangs (four_state (plain of at w s own ps value))
four-hangs of at w s own ps value h by =
    let p = plain-hangs of at w s own ps value h by in
    record { same = λ k a b sa sb agree. record { value = (p.same k a b sa sb agree).value; given = (p.same k a b sa sb agree).given }; constant = p.constant; stands = p.stands; moves = record { window = p.moves.window; within = p.moves.within; exact = p.moves.exact; known = p.moves.known } }

-- one bit that hangs on the operands' values
pub bit-hangs : (of : Layout) (at : ℕ) (own : ℕ → ℕ) (ps : List Operand) (bit : Around → Bit4) → AllHang (operands_of ps)
    → ((a b : Around) → a.callee ≡ b.callee → AllSame (operands_of ps) a b → bit a ≡ bit b) → Hangs (one_bit of at own ps bit)
bit-hangs of at own ps bit h by = four-hangs of at 1 false own ps (λ w s a. ext w s (bit a ∷ [])) h (λ a b callee is w s. ap (λ x. ext w s (x ∷ [])) (by a b callee is))

-- values alone
pub alone-same : (m : Meaning) (a b : Around) → Same m a b → alone m a ≡ alone m b
alone-same m a b s = s.value (wide m) (signed m)

pub truth-same : (m : Meaning) (a b : Around) → Same m a b → truth m a ≡ truth m b
truth-same m a b s = ap truth_of (alone-same m a b s)

pub all-alone : (ms : List Meaning) (a b : Around) → AllSame ms a b → joined ms a ≡ joined ms b
all-alone ms a b is = ap stacked (each ms is)
  where
    each : (ms : List Meaning) → AllSame ms a b → map (λ (m : Meaning). alone m a) ms ≡ map (λ (m : Meaning). alone m b) ms
    each [] is = refl
    each (m ∷ ms) is = ap (λ v. v ∷ map (λ (n : Meaning). alone n a) ms) (alone-same m a b is.0) ∙ ap (λ vs. alone m b ∷ vs) (each ms is.1)

by-itself-of : (ms : List Meaning) → operands_of (map by_itself ms) ≡ ms
by-itself-of [] = refl
by-itself-of (m ∷ ms) = ap (λ ns. m ∷ ns) (by-itself-of ms)

-- operands that are valued alone
pub alone-hang : (ms : List Meaning) → AllHang ms → AllHang (operands_of (map by_itself ms))
alone-hang ms h = subst AllHang (sym (by-itself-of ms)) h

pub alone-are-same : (ms : List Meaning) (a b : Around) → AllSame (operands_of (map by_itself ms)) a b → AllSame ms a b
alone-are-same ms a b s = subst (λ ns. AllSame ns a b) (by-itself-of ms) s

-- what is assigned to members or passed to formals
assigned-same : (two_state : List Bool) (m : Meaning) (a b : Around) → Same m a b → assigned_to two_state m a ≡ assigned_to two_state m b
assigned-same two_state m a b s = ap (stored two_state) (s.given (length two_state))

pub all-passed : (fs : List Parameter) (ms : List Meaning) (a b : Around) → AllSame ms a b → passed fs ms a ≡ passed fs ms b
all-passed [] ms a b s = refl
all-passed (f ∷ fs) [] a b s = refl
all-passed (f ∷ fs) (m ∷ ms) a b s =
    ap (λ v. v ∷ passed fs ms a) (assigned-same f.two_state m a b s.0) ∙ ap (λ vs. assigned_to f.two_state m b ∷ vs) (all-passed fs ms a b s.1)

abbrev pub item_operands : List Part → List Meaning → List Operand
item_operands fs ms = map (λ p. at_width (O.assigned_width p.0.two_state p.1) p.1) (zip fs ms)

pub items-hang : (fs : List Part) (ms : List Meaning) → AllHang ms → AllHang (operands_of (item_operands fs ms))
items-hang [] ms h = tt
items-hang (f ∷ fs) [] h = tt
items-hang (f ∷ fs) (m ∷ ms) h = (h.0, items-hang fs ms h.1)

pub items-same : (fs : List Part) (ms : List Meaning) (a b : Around) → AllSame (operands_of (item_operands fs ms)) a b → map (λ p. assigned_to p.0.two_state p.1 a) (zip fs ms) ≡ map (λ p. assigned_to p.0.two_state p.1 b) (zip fs ms)
items-same [] ms a b s = refl
items-same (f ∷ fs) [] a b s = refl
items-same (f ∷ fs) (m ∷ ms) a b s =
    ap (λ v. v ∷ map (λ p. assigned_to p.0.two_state p.1 a) (zip fs ms)) (assigned-same f.two_state m a b s.0) ∙ ap (λ vs. assigned_to f.two_state m b ∷ vs) (items-same fs ms a b s.1)

-- comparisons
pub equals-same : (op : _) (l r : Meaning) (a b : Around) → Same l a b → Same r a b → equals op l r a ≡ equals op l r b
equals-same op l r a b sl sr =
    let w = both_wide l r in
    let s = O.both_signed l r in
    ap (λ v. equality op v (r.value w s a)) (sl.value w s) ∙ ap (λ v. equality op (l.value w s b) v) (sr.value w s)

pub order-same : (op : _) (l r : Meaning) (a b : Around) → Same l a b → Same r a b → in_order op l r a ≡ in_order op l r b
order-same op l r a b sl sr =
    let w = both_wide l r in
    let s = O.both_signed l r in
    ap (λ v. order_value op s v (r.value w s a)) (sl.value w s) ∙ ap (λ v. order_value op s (l.value w s b) v) (sr.value w s)
