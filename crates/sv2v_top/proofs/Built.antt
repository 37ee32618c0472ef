-- A module that is refused nothing elaborates to a design that can be translated.
use Rattle.std.proofs.Common.{◌≡◌, ◌<◌, ◌≤◌, ◌^◌, ◌+◌, ◌-◌, ℕ, zero, suc, Bool, true, false, not, ◌&&◌, ◌||◌, if◌then◌else◌, List, [], ◌∷◌, ◌++◌, map, flat_map, length, sum, reverse, slice_get, Option, Some, None, refl, sym, ap, subst, ◌∙◌, inl, inr, arith}
use Rattle.std.specs.List.{list_all, AllByRecursion}
use Rattle.std.specs.Prelude.{nat_le, nat_lt, ◌==◌, ◌*◌}
use Rattle.std.specs.Str.{bytes_eq}
use Rattle.std.proofs.lemmas.Bool.{or_left, or_right, and_parts, false≢true, leb-true, ltb-true, eqb-true, eq-eqb}
use Rattle.std.proofs.lemmas.List.{length-reverse}
use Rattle.row_machine.specs.Valuation.{Member}
use Rattle.sv_source.specs.declared.token.Spot.{Spot}
use Rattle.sv_source.specs.declared.token.Token.{Token}
use Rattle.sv_source.specs.declared.refusal.Refusal.{Refusal}
use Rattle.sv_core.specs.declared.design.SignalKind.{SignalKind}
use Rattle.sv_core.specs.declared.design.SignalKind.TheVariants.{InputNet, OutputVar, Variable}
use Rattle.sv_core.specs.declared.design.Signal.{Signal}
use Rattle.sv_core.specs.declared.design.Process.{Process}
use Rattle.sv_core.specs.declared.design.Expr.{Expr as TypedExpr}
use Rattle.sv_core.specs.Statements.{doing}
use Rattle.lower_design.specs.Translatable.{is_helper_name, path_of, is_input, IsVariable, IsSignal, PrimaryFits, ExprFits, inside, targets_of, KindFits, is_comb, Translatable}
use Rattle.v_tree.specs.Names.{among, distinct, position}
use Rattle.v_tree.specs.Tokens.{is_simple}
use Rattle.sv2v_top.specs.declared.uses.Use.{Use}
use Rattle.sv2v_top.specs.declared.uses.Literal.{Literal}
use Rattle.built_forms.specs.declared.forms.Direction.{Direction}
use Rattle.built_forms.specs.declared.forms.Direction.TheVariants.{Input}
use Rattle.built_forms.specs.declared.forms.Range.{Range}
use Rattle.built_forms.specs.declared.forms.Port.{Port}
use Rattle.built_forms.specs.declared.forms.Primary.{Primary}
use Rattle.built_forms.specs.declared.forms.Primary.TheVariants as P
use Rattle.built_forms.specs.declared.forms.Expr.{Expr}
use Rattle.built_forms.specs.declared.forms.Expr.TheVariants.{Single, Binary}
use Rattle.built_forms.specs.declared.forms.Item.{Item}
use Rattle.built_forms.specs.declared.forms.Item.TheVariants as I
use Rattle.built_forms.specs.declared.forms.Module.{Module}
use Rattle.sv2v_top.specs.source.Literals.{decimal, with_digit, is_digit, are_digits, is_plain_size, is_plain_literal, behind_base, literal_bits, bit_of_digit}
use Rattle.sv2v_top.specs.source.Names.{Declared, ports_from, direction_after, range_after, declared_by, variables, declared, name_of, signal_names, first_undeclared}
use Rattle.sv2v_top.specs.source.Statements.{primary_literals, expr_literals, item_parts, word_of, targets, reads}
use Rattle.sv2v_top.specs.source.Rules.{if_input, inputs, none_among, range_width, range_holds, width_of, signal_of, ranges_hold, total_bits, item_holds, items_hold, is_top, elaborates, first_process_break, is_comb_item, target_words, comb_targets, are_plain, clock_is_bit, item_is_built_among, is_built}
use Rattle.sv2v_top.specs.source.Elaboration.{primary_of, expr_of, process_of, processes_of, design_of}
use Rattle.sv2v_top.specs.source.Answers.{unless_built, refusal_if_elaborates, refusal_if_top, refusal_or, refusal_of}
use Rattle.sv2v_top.proofs.Names.{same_bytes, true_or_false, not_true, among-member, member-at, member-map, member-unmap, member-split, pick_false}
use Rattle.sv2v_top.proofs.Decimals.{decimal_grows}
use Rattle.sv2v_top.proofs.Checks.{sum-cons, bits-summed}
use Rattle.sv2v_top.proofs.Readable.{Bitwise, IsName, NameSpot, NamedPort, NamedItem, GoodItem, NamedModule, length-map, map-get}
use Rattle.sv2v_top.proofs.Parts.{OwnLiterals, own-none, own-assignment, own-literals}
use Rattle.sv2v_top.proofs.Processes.{all-member, member-parts, parts-member, position-there, position-one, MadeOf, made-of, option-none, NamesThere, target-there, read-there, target-source, read-source, drivers}

-- what elaborates, rule by rule
pub record Elaborates (m : Module) : Type 0 where
  pub names : distinct (signal_names m) ≡ true
  pub own : list_all (λ name. not (is_helper_name name)) (signal_names m) ≡ true
  pub ranges : ranges_hold (declared m) ≡ true
  pub bits : nat_le (total_bits (declared m)) (2 ^ 22) ≡ true
  pub items : items_hold m ≡ true

pub elaborates-parts : (m : Module) → elaborates m ≡ true → Elaborates m
elaborates-parts m e =
    let front = and_parts _ _ e in
    let head = and_parts _ _ front.0 in
    let helpers = and_parts _ _ head.0 in
    let named = and_parts _ _ helpers.0 in
    let types = and_parts _ _ head.1 in
    record { names = named.1; own = helpers.1; ranges = types.0; bits = types.1; items = front.1 }

-- nothing is refused, question by question
pub record Unrefused (m : Module) (top : List ℕ) : Type 0 where
  pub elaborated : elaborates m ≡ true
  pub processes : first_process_break m ≡ None
  pub built : is_built m ≡ true

pub unrefused : (m : Module) (top : List ℕ) → refusal_of m top ≡ None → Unrefused m top
unrefused m top e = by_use (first_undeclared m) e
  where
    some-none : {A : Type 0} (x : A) → Some x ≡ None → ⊥
    some-none x e = cc

    by_built : (b : Bool) → unless_built b ≡ None → b ≡ true
    by_built true e = refl
    by_built false e = absurd (some-none _ e)

    by_rules : (b : Bool) → refusal_if_elaborates b (first_process_break m) (is_built m) ≡ None → (b ≡ true) × (first_process_break m ≡ None) × (is_built m ≡ true)
    by_rules true e = (let o = option-none (first_process_break m) (unless_built (is_built m)) e in (refl, o.0, by_built (is_built m) o.1))
    by_rules false e = absurd (some-none _ e)

    behind : Option Refusal
    behind = refusal_if_elaborates (elaborates m) (first_process_break m) (is_built m)

    by_top : (b : Bool) → refusal_if_top b top behind ≡ None → behind ≡ None
    by_top true e = e
    by_top false e = absurd (some-none _ e)

    by_use : (o : Option Use) → refusal_or o (refusal_if_top (is_top m top) top behind) ≡ None → Unrefused m top
    by_use (Some u) e = absurd (some-none _ e)
    by_use None e = (let r = by_rules (elaborates m) (by_top (is_top m top) e) in record { elaborated = r.0; processes = r.1; built = r.2 })

-- an input is among the inputs
pub input-more : (kind : SignalKind) (name : List ℕ) (names : List (List ℕ)) (w : List ℕ) → among names w ≡ true → among (if_input kind name names) w ≡ true
input-more InputNet name names w h = or_right (bytes_eq name w) _ h
input-more OutputVar name names w h = h
input-more Variable name names w h = h

pub input-self : (kind : SignalKind) (name : List ℕ) (names : List (List ℕ)) → kind ≡ InputNet → among (if_input kind name names) name ≡ true
input-self InputNet name names e = or_left _ _ (same_bytes name)
input-self OutputVar name names e = cc
input-self Variable name names e = cc

pub input-among : (ds : List Declared) (d : Declared) → Member ds d → d.kind ≡ InputNet → among (inputs ds) (name_of d) ≡ true
input-among [] d m o = elim m [ ]
input-among (q ∷ ds) d (inl e) o =
    subst (λ (x : Declared). among (inputs (q ∷ ds)) (name_of x) ≡ true) (sym e) (input-self q.kind q.name.word (inputs ds) (ap (λ (x : Declared). x.kind) (sym e) ∙ o))
input-among (q ∷ ds) d (inr m) o = input-more q.kind q.name.word (inputs ds) (name_of d) (input-among ds d m o)

-- what stands in a mapped list is made of what stands there in the list
pub get-map : {A B : Type 0} (f : A → B) (xs : List A) (n : ℕ) (y : B) → slice_get (map f xs) n ≡ Some y → (x : A) × (slice_get xs n ≡ Some x) × (f x ≡ y)
get-map f [] n y e = cc
get-map f (x ∷ xs) zero y e = (x, refl, cc)
get-map f (x ∷ xs) (suc n) y e = get-map f xs n y e

pub map-map : {A B C : Type 0} (f : B → C) (g : A → B) (xs : List A) → map f (map g xs) ≡ map (λ x. f (g x)) xs
map-map f g [] = refl
map-map f g (x ∷ xs) = ap (λ ys. f (g x) ∷ ys) (map-map f g xs)

pub get-below : {A : Type 0} (xs : List A) (n : ℕ) (x : A) → slice_get xs n ≡ Some x → suc n ≤ length xs
get-below [] n x e = cc
get-below (y ∷ xs) zero x e = omega arith
get-below (y ∷ xs) (suc n) x e = (let h = get-below xs n x e in omega arith)

module _ (ds : List Declared) where
  -- the declaration of a name, by its number
  pub record Found (w : List ℕ) : Type 0 where
    pub of : Declared
    pub is_declared : Member ds of
    pub is_there : slice_get (map signal_of ds) (position (map name_of ds) w) ≡ Some (signal_of of)
    pub is_named : name_of of ≡ w

  pub found : (w : List ℕ) → among (map name_of ds) w ≡ true → Found w
  found w h =
      let g = get-map name_of ds (position (map name_of ds) w) w (position-there (map name_of ds) w h) in
      record { of = g.0; is_declared = member-at ds _ g.0 g.1; is_there = map-get signal_of ds _ g.0 g.1; is_named = g.2 }

  -- a name that is no input is that of a variable
  pub variable : (w : List ℕ) → among (map name_of ds) w ≡ true → among (inputs ds) w ≡ false → IsVariable (map signal_of ds) (position (map name_of ds) w)
  variable w h free = record { signal = signal_of f.of; is_there = f.is_there; no_input = by_kind (f.of).kind refl }
    where
      f : Found w
      f = found w h

      by_kind : (k : SignalKind) → (f.of).kind ≡ k → is_input k ≡ false
      by_kind InputNet e = absurd (false≢true (sym free ∙ subst (λ v. among (inputs ds) v ≡ true) f.is_named (input-among ds f.of f.is_declared e)))
      by_kind OutputVar e = refl
      by_kind Variable e = refl

  pub signal-there : (w : List ℕ) → among (map name_of ds) w ≡ true → IsSignal (map signal_of ds) (position (map name_of ds) w)
  signal-there w h = (let f = found w h in get-below (map signal_of ds) _ (signal_of f.of) f.is_there)

-- widths
pub width-some : (range : Option Range) → 1 ≤ range_width range
width-some None = omega arith
width-some (Some r) = omega arith

pub width-few : (range : Option Range) → range_holds range ≡ true → range_width range ≤ 65536
width-few None e = omega arith
width-few (Some r) e = leb-true (range_width (Some r)) 65536 (and_parts _ _ e).1

-- a plain literal has from 1 to 128 bits
pub size-positive : (size : List ℕ) → is_plain_size size ≡ true → 1 ≤ decimal size
size-positive [] e = absurd (false≢true e)
size-positive (c ∷ text) e =
    let ends = and_parts (not (c == 48)) (are_digits (c ∷ text)) e in
    let digits = and_parts (is_digit c) (are_digits text) ends.1 in
    let digit = and_parts (nat_le 48 c) (nat_lt c 58) digits.0 in
    let low = leb-true 48 c digit.0 in
    let high = ltb-true c 58 digit.1 in
    let grows = decimal_grows text (with_digit 0 c) in
    let first = pick_false (c == 95) 0 (10 * 0 + (c - 48)) (other 95 (omega arith)) in
    let nonzero = not_zero (not_true _ ends.0) in
    omega arith
  where
    other : (k : ℕ) → (c ≡ k → ⊥) → (c == k) ≡ false
    other k h = elim (true_or_false (c == k)) [ inl f ↦ absurd (h (eqb-true c k f)) | inr f ↦ f ]

    not_zero : (c == 48) ≡ false → c ≡ 48 → ⊥
    not_zero f g = false≢true (sym f ∙ eq-eqb c 48 g)

pub literal-fits : (size digits : List ℕ) → is_plain_literal size digits ≡ true → (1 ≤ length (literal_bits digits)) × (length (literal_bits digits) ≤ 128)
literal-fits size digits e =
    let p4 = and_parts _ _ e in
    let p3 = and_parts _ _ p4.0 in
    let p2 = and_parts _ _ p3.0 in
    let p1 = and_parts _ _ p2.0 in
    let same = eqb-true (length (behind_base digits)) (decimal size) p3.1 in
    let few = leb-true (decimal size) 128 p1.1 in
    let some = size-positive size p1.0 in
    let count : length (literal_bits digits) ≡ length (behind_base digits) = length-map bit_of_digit (reverse (behind_base digits)) ∙ length-reverse (behind_base digits) in
    (omega arith, omega arith)

pub primary-fits : (names : List (List ℕ)) (p : Primary) → are_plain (primary_literals p) ≡ true → PrimaryFits (primary_of names p)
primary-fits names (P.Name x) e = tt
primary-fits names (P.Literal size digits) e = literal-fits size.word digits.word (and_parts _ _ e).0

-- literals of both of two lists
pub plain-both : (xs ys : List Literal) → are_plain (xs ++ ys) ≡ true → (are_plain xs ≡ true) × (are_plain ys ≡ true)
plain-both [] ys e = (refl, e)
plain-both (x ∷ xs) ys e =
    let ends = and_parts (is_plain_literal x.size.word x.digits.word) (are_plain (xs ++ ys)) e in
    let rest = plain-both xs ys ends.1 in
    ((λ i. ends.0 i && rest.0 i), rest.1)

pub expr-fits : (tokens : List Token) (names : List (List ℕ)) (x : Expr) → are_plain (expr_literals x) ≡ true → Bitwise x → ExprFits (expr_of names x)
expr-fits tokens names (Single a) e b = primary-fits names a.primary e
expr-fits tokens names (Binary op a c) e b =
    let ends = plain-both (primary_literals a.primary) (primary_literals c.primary) e in
    (b, primary-fits names a.primary ends.0, primary-fits names c.primary ends.1)

-- literals of one of some expressions
pub plain-one : (xs : List Expr) (x : Expr) → are_plain (flat_map expr_literals xs) ≡ true → Member xs x → are_plain (expr_literals x) ≡ true
plain-one [] x e m = elim m [ ]
plain-one (y ∷ xs) x e (inl same) = ap (λ z. are_plain (expr_literals z)) same ∙ (plain-both (expr_literals y) (flat_map expr_literals xs) e).0
plain-one (y ∷ xs) x e (inr m) = plain-one xs x (plain-both (expr_literals y) (flat_map expr_literals xs) e).1 m

pub item-literals : (i : Item) → OwnLiterals (item_parts i)
item-literals (I.Assign a) = own-assignment a
item-literals (I.Logic d) = own-none
item-literals (I.Comb body) = own-literals body
item-literals (I.Edge clock body) = own-literals body

pub all-holds : {A : Type 0} (P : A → Type 0) (xs : List A) (x : A) → AllByRecursion P xs → Member xs x → P x
all-holds P [] x a m = elim m [ ]
all-holds P (y ∷ ys) x a (inl e) = subst P (sym e) a.0
all-holds P (y ∷ ys) x a (inr m) = all-holds P ys x a.1 m

-- what a module declares has the names of its text
module _ (tokens : List Token) where
  pub port-named : (direction : Direction) (range : Option Range) (ports : List Port) (d : Declared)
      → AllByRecursion (NamedPort (NameSpot tokens)) ports → Member (ports_from direction range ports) d → IsName tokens (name_of d)
  port-named direction range [] d a m = elim m [ ]
  port-named direction range (p ∷ ports) d a (inl e) = subst (λ (x : Declared). IsName tokens (name_of x)) (sym e) a.0
  port-named direction range (p ∷ ports) d a (inr m) = port-named (direction_after direction p.head) (range_after range p.head) ports d a.1 m

  pub declaration-named : (i : Item) (d : Declared) → NamedItem (NameSpot tokens) i → Member (declared_by i) d → IsName tokens (name_of d)
  declaration-named (I.Assign a) d n m = elim m [ ]
  declaration-named (I.Logic l) d n (inl e) = subst (λ (x : Declared). IsName tokens (name_of x)) (sym e) n
  declaration-named (I.Logic l) d n (inr m) = elim m [ ]
  declaration-named (I.Comb body) d n m = elim m [ ]
  declaration-named (I.Edge clock body) d n m = elim m [ ]

  pub variable-named : (items : List Item) (d : Declared) → AllByRecursion (GoodItem (NameSpot tokens)) items → Member (variables items) d → IsName tokens (name_of d)
  variable-named [] d a m = elim m [ ]
  variable-named (i ∷ items) d a m =
      elim (member-split (declared_by i) (variables items) d m) [
        | inl k ↦ declaration-named i d (a.0).named k
        | inr k ↦ variable-named items d a.1 k
      ]

  pub declared-named : (m : Module) (d : Declared) → NamedModule tokens m → Member (declared m) d → IsName tokens (name_of d)
  declared-named m d n k =
      elim (member-split (ports_from Input None m.ports) (variables m.items) d k) [
        | inl l ↦ port-named Input None m.ports d n.ports l
        | inr l ↦ variable-named m.items d n.items l
      ]

module _ (top : List ℕ) (tokens : List Token) (m : Module) (named : NamedModule tokens m) (free : refusal_of m top ≡ None)
    (simple : (w : List ℕ) → IsName tokens w → is_simple w ≡ true) where
  abbrev ds : List Declared
  ds = declared m

  abbrev names : List (List ℕ)
  names = signal_names m

  abbrev signals : List Signal
  signals = map signal_of ds

  asked : Unrefused m top
  asked = unrefused m top free

  rules : Elaborates m
  rules = elaborates-parts m asked.elaborated

  -- what an item keeps
  record Kept (i : Item) : Type 0 where
    pub there : NamesThere signals names i
    pub plain : are_plain (item_parts i).literals ≡ true
    pub apart : is_comb_item i ≡ true → none_among (comb_targets m.items) (reads i) ≡ true
    pub no_input : none_among (inputs ds) (targets i) ≡ true
    pub clock : clock_is_bit signals names i ≡ true
    pub good : GoodItem (NameSpot tokens) i

  kept : (i : Item) → Member m.items i → Kept i
  kept i k =
      let held = all-member (item_holds names (inputs ds)) m.items i rules.items k in
      let first = and_parts _ _ (and_parts _ _ held).0 in
      let made = all-member (item_is_built_among signals names (inputs ds) (comb_targets m.items)) m.items i (and_parts _ _ asked.built).1 k in
      let b4 = and_parts _ _ made in
      let b3 = and_parts _ _ b4.0 in
      let b2 = and_parts _ _ b3.0 in
      let b1 = and_parts _ _ b2.0 in
      record {
        there = first.0;
        plain = b1.0;
        apart = λ comb. other (is_comb_item i) _ comb b1.1;
        no_input = b2.1;
        clock = b3.1;
        good = all-holds (GoodItem (NameSpot tokens)) m.items i named.items k;
      }
    where
      other : (a b : Bool) → a ≡ true → (not a || b) ≡ true → b ≡ true
      other true b e h = h
      other false b e h = absurd (false≢true e)

  -- the item of a process
  record FromItem (p : Process) : Type 0 where
    pub item : Item
    pub is_item : Member m.items item
    pub is_process : Member (process_of names item) p
    pub made : MadeOf signals names item p
    pub keeps : Kept item

  from-item : (p : Process) → Member (processes_of names m.items) p → FromItem p
  from-item p k =
      let r = member-parts (process_of names) m.items p k in
      record { item = r.0; is_item = r.1; is_process = r.2; made = made-of signals names r.0 p r.2; keeps = kept r.0 r.1 }

  signal-paths : map path_of signals ≡ names
  signal-paths = map-map path_of signal_of ds

  -- a signal is declared
  of-declared : (s : Signal) → Member signals s → (d : Declared) × Member ds d × (s ≡ signal_of d)
  of-declared s k = member-unmap signal_of ds s k

  path-simple : (s : Signal) → Member signals s → is_simple s.path ≡ true
  path-simple s k = (let d = of-declared s k in subst (λ (x : Signal). is_simple x.path ≡ true) (sym d.2) (simple (name_of d.0) (declared-named tokens m d.0 named d.1)))

  path-own : (s : Signal) → Member signals s → is_helper_name s.path ≡ false
  path-own s k =
      let d = of-declared s k in
      subst (λ (x : Signal). is_helper_name x.path ≡ false) (sym d.2)
      (not_true _ (all-member (λ name. not (is_helper_name name)) names (name_of d.0) rules.own (member-map name_of ds d.0 d.1)))

  some-bits : (s : Signal) → Member signals s → 1 ≤ s.width
  some-bits s k = (let d = of-declared s k in subst (λ (x : Signal). 1 ≤ x.width) (sym d.2) (width-some (d.0).range))

  few-bits : (s : Signal) → Member signals s → s.width ≤ 65536
  few-bits s k =
      let d = of-declared s k in
      subst (λ (x : Signal). x.width ≤ 65536) (sym d.2) (width-few (d.0).range (all-member (λ (x : Declared). range_holds x.range) ds d.0 rules.ranges d.1))

  all-bits : sum (map (λ (s : Signal). s.width) signals) ≤ 2 ^ 22
  all-bits = (let few = leb-true (total_bits ds) (2 ^ 22) rules.bits in let same = bits-summed ds in omega arith)

  assigned : (p : Process) → Member (processes_of names m.items) p → (n : ℕ) → Member (targets_of p) n → IsVariable signals n
  assigned p k n t =
      let f = from-item p k in
      let s = target-source signals names f.item p f.is_process n t in
      subst (IsVariable signals) (sym s.2)
      (variable ds (s.0).word (target-there signals names f.item f.keeps.there s.0 s.1)
      (not_true _ (all-member (λ (x : Spot). not (among (inputs ds) x.word)) (targets f.item) s.0 f.keeps.no_input s.1)))

  read : (p : Process) → Member (processes_of names m.items) p → (n : ℕ) → Member (doing p.body).reads n → IsSignal signals n
  read p k n r =
      let f = from-item p k in
      let s = read-source signals names f.item p f.is_process n r in
      subst (IsSignal signals) (sym s.2) (signal-there ds (s.0).word (read-there signals names f.item f.keeps.there s.0 s.1))

  -- no combinational process reads what one writes
  apart : (p q : Process) → Member (processes_of names m.items) p → Member (processes_of names m.items) q → is_comb p.kind ≡ true → is_comb q.kind ≡ true
      → (n : ℕ) → Member (doing p.body).reads n → Member (targets_of q) n → ⊥
  apart p q k l pc qc n r t =
      let f = from-item p k in
      let g = from-item q l in
      let s = read-source signals names f.item p f.is_process n r in
      let u = target-source signals names g.item q g.is_process n t in
      let same = position-one names (s.0).word (u.0).word (read-there signals names f.item f.keeps.there s.0 s.1) (target-there signals names g.item g.keeps.there u.0 u.1) (sym s.2 ∙ u.2) in
      let away = not_true _ (all-member (λ (x : Spot). not (among (comb_targets m.items) x.word)) (reads f.item) s.0 (f.keeps.apart (sym f.made.comb ∙ pc)) s.1) in
      let at : Member (comb_targets m.items) (u.0).word = comb-target g.item g.is_item (sym g.made.comb ∙ qc) u.0 u.1 in
      false≢true (sym away ∙ ap (among (comb_targets m.items)) same ∙ among-member (comb_targets m.items) (u.0).word at)
    where
      comb-target : (i : Item) → Member m.items i → is_comb_item i ≡ true → (s : Spot) → Member (targets i) s → Member (comb_targets m.items) s.word
      comb-target i k c s t =
          parts-member _ m.items i s.word k (subst (λ b. Member (if b then target_words i else []) s.word) (sym c) (member-map word_of (targets i) s t))

  kind : (p : Process) → Member (processes_of names m.items) p → KindFits signals p.kind p.body
  kind p k = (let f = from-item p k in f.made.kind f.keeps.clock)

  fits : (p : Process) → Member (processes_of names m.items) p → (x : TypedExpr) → Member (inside p.body).exprs x → ExprFits x
  fits p k x e =
      let f = from-item p k in
      let y = member-unmap (expr_of names) (item_parts f.item).exprs x (subst (λ xs. Member xs x) f.made.exprs e) in
      let plain = plain-one (item_parts f.item).exprs y.0 (sym (ap are_plain (item-literals f.item)) ∙ f.keeps.plain) y.1 in
      let bitwise = all-holds Bitwise (item_parts f.item).exprs y.0 f.keeps.good.good.exprs y.1 in
      subst ExprFits (sym y.2) (expr-fits tokens names y.0 plain bitwise)

  nesting : (p : Process) → Member (processes_of names m.items) p → (inside p.body).depth ≤ 256
  nesting p k = (let f = from-item p k in subst (λ n. n ≤ 256) (sym f.made.depth) f.keeps.good.good.depth_within)

  pub translatable : Translatable (design_of m)
  translatable = record {
    top = simple m.name.word named.itself;
    names = ap distinct signal-paths ∙ rules.names;
    simple = path-simple;
    own = path-own;
    some_bits = some-bits;
    few_bits = few-bits;
    all_bits = all-bits;
    targets = assigned;
    one_driver = drivers signals names [] m.items asked.processes (λ i k. (kept i k).there);
    reads = read;
    independent = apart;
    kinds = kind;
    exprs = fits;
    nesting = nesting;
  }

-- fewer names than the bits of all signals
pub names-few : (ds : List Declared) → length (map name_of ds) ≤ total_bits ds
names-few [] = omega arith
names-few (d ∷ ds) =
    let rest = names-few ds in
    let one = width-some d.range in
    let all = sum-cons (width_of d) (map width_of ds) in
    omega arith

pub elaborated-few : (m : Module) → elaborates m ≡ true → length (signal_names m) < 2 ^ 32
elaborated-few m e =
    let few = leb-true (total_bits (declared m)) (2 ^ 22) (elaborates-parts m e).bits in
    let names = names-few (declared m) in
    omega arith

-- a module that is refused nothing has few signals
pub core-few : (m : Module) (top : List ℕ) → refusal_of m top ≡ None → length (design_of m).signals ≤ 2 ^ 32
core-few m top e =
    let few = elaborated-few m (unrefused m top e).elaborated in
    let same : length (map signal_of (declared m)) ≡ length (map name_of (declared m)) = length-map signal_of (declared m) ∙ sym (length-map name_of (declared m)) in
    omega (arith, few, same)
