-- Lists of expressions, each of which is constant or not.
use Rattle.std.proofs.Common.{◌≡◌, inl, inr, ℕ, zero, suc, Bool, true, false, ◌&&◌, List, [], ◌∷◌, ◌++◌, map, flat_map, take, length, refl, ap, sym, ◌∙◌, subst}
use Rattle.std.specs.List.{list_all}
use Rattle.sv_types.specs.Layouts.{Part}
use Rattle.sv_types.specs.Surroundings.{Sight}
use Rattle.sv_types.specs.Meanings.{Meaning, Operand, by_itself}
use Rattle.flow_laws.proofs.Agreeing.{empty-left}
use Rattle.flow_laws.proofs.Plain.{operands_of, item_operands}
use Rattle.constant_exprs.specs.Constants.{IsBlind, ConstantIf, AllConstantIf}

not-both : {A : Type 0} → false ≡ true → A
not-both h = absurd (cc)

and-left : (a b : Bool) → a ≡ true → (a && b) ≡ b
and-left a b h = ap (λ x. x && b) h

and-none : (a b : Bool) → a ≡ false → (a && b) ≡ false
and-none a b h = ap (λ x. x && b) h

-- whether all are, and what they name where all are
pub all-constant : (b : Bool) (ms : List Meaning) → AllConstantIf b ms → (k : Sight) → IsBlind k → list_all (λ (m : Meaning). m.constant k) ms ≡ b
all-constant b [] h k blind = sym h
all-constant b (m ∷ ms) (inl h) k blind = and-left (m.constant k) (list_all (λ (n : Meaning). n.constant k) ms) (h.0.constant k blind) ∙ all-constant b ms h.1 k blind
all-constant b (m ∷ ms) (inr h) k blind = and-none (m.constant k) (list_all (λ (n : Meaning). n.constant k) ms) (h.0.constant k blind) ∙ sym h.1

pub none-named : (b : Bool) (ms : List Meaning) → AllConstantIf b ms → b ≡ true → flat_map (λ (m : Meaning). m.names) ms ≡ []
none-named b [] h is = refl
none-named b (m ∷ ms) (inl h) is = empty-left m.names (flat_map (λ (n : Meaning). n.names) ms) (h.0.none refl) (none-named b ms h.1 is)
none-named b (m ∷ ms) (inr h) is = not-both (sym h.1 ∙ is)

pub none-indexed : (b : Bool) (ms : List Meaning) → AllConstantIf b ms → b ≡ true → flat_map (λ (m : Meaning). m.index_names) ms ≡ []
none-indexed b [] h is = refl
none-indexed b (m ∷ ms) (inl h) is = empty-left m.index_names (flat_map (λ (n : Meaning). n.index_names) ms) (h.0.index_none refl) (none-indexed b ms h.1 is)
none-indexed b (m ∷ ms) (inr h) is = not-both (sym h.1 ∙ is)

-- one, and one more
pub only : (b : Bool) (m : Meaning) → AllConstantIf b (m ∷ []) → ConstantIf b m
only b m (inl h) = subst (λ x. ConstantIf x m) (sym h.1) h.0
only b m (inr h) = subst (λ x. ConstantIf x m) (sym h.1) h.0

pub by-one : (b : Bool) (m : Meaning) → ConstantIf b m → AllConstantIf b (m ∷ [])
by-one true m h = inl (h, refl)
by-one false m h = inr (h, refl)

pub one-more : (b : Bool) (m : Meaning) (ms : List Meaning) → ConstantIf true m → AllConstantIf b ms → AllConstantIf b (m ∷ ms)
one-more b m ms h g = inl (h, g)

pub one-not : (m : Meaning) (ms : List Meaning) → ConstantIf false m → AllConstantIf false (m ∷ ms)
one-not m ms h = inr (h, refl)

-- one list behind another
pub all-more : (b : Bool) (ms ns : List Meaning) → AllConstantIf true ms → AllConstantIf b ns → AllConstantIf b (ms ++ ns)
all-more b [] ns h g = g
all-more b (m ∷ ms) ns (inl h) g = inl (h.0, all-more b ms ns h.1 g)
all-more b (m ∷ ms) ns (inr h) g = not-both (sym h.1)

pub not-all : (ms ns : List Meaning) → AllConstantIf false ms → AllConstantIf false (ms ++ ns)
not-all [] ns h = not-both h
not-all (m ∷ ms) ns (inl h) = inl (h.0, not-all ms ns h.1)
not-all (m ∷ ms) ns (inr h) = inr h

-- operands, by what they are operands of
pub operands-constant : (ps : List Operand) (k : Sight) → list_all (λ (p : Operand). p.of.constant k) ps ≡ list_all (λ (m : Meaning). m.constant k) (operands_of ps)
operands-constant [] k = refl
operands-constant (p ∷ ps) k = ap (λ x. p.of.constant k && x) (operands-constant ps k)

pub operands-named : (ps : List Operand) → flat_map (λ (p : Operand). p.of.names) ps ≡ flat_map (λ (m : Meaning). m.names) (operands_of ps)
operands-named [] = refl
operands-named (p ∷ ps) = ap (λ ns. p.of.names ++ ns) (operands-named ps)

pub each-alone : (ms : List Meaning) → operands_of (map by_itself ms) ≡ ms
each-alone [] = refl
each-alone (m ∷ ms) = ap (λ ns. m ∷ ns) (each-alone ms)

pub each-placed : (fs : List Part) (ms : List Meaning) → operands_of (item_operands fs ms) ≡ take (length fs) ms
each-placed [] ms = refl
each-placed (f ∷ fs) [] = refl
each-placed (f ∷ fs) (m ∷ ms) = ap (λ ns. m ∷ ns) (each-placed fs ms)

pub take-map : {A B : Type 0} (f : A → B) (n : ℕ) (xs : List A) → map f (take n xs) ≡ take n (map f xs)
take-map f zero xs = refl
take-map f (suc n) [] = refl
take-map f (suc n) (x ∷ xs) = ap (λ ys. f x ∷ ys) (take-map f n xs)
