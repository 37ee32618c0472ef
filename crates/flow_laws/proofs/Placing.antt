-- What a write through an expression changes.
use Rattle.std.proofs.Common.{◌≡◌, ◌⊎◌, inl, inr, ℕ, ◌==◌, Bool, true, false, ◌&&◌, ◌||◌, cond, ℤ, pos, ◌-ℤ◌, List, [], ◌∷◌, ◌++◌, map, flat_map, take, drop, Option, Some, None, refl, ap, sym, ◌∙◌, subst}
use Rattle.std.specs.Prelude.{is_some, slice_get, slice_index_or}
use Rattle.std.specs.List.{list_any}
use Rattle.std.proofs.lemmas.Bool.{false≢true, and_parts, or_cases, or_parts, eqb-true, eq-eqb}
use Rattle.b4_core.specs.declared.bit.Bit4.{Bit4}
use Rattle.b4_core.specs.declared.bit.Bit4.TheVariants.{X}
use Rattle.row_machine.specs.Valuation.{Place, Changes}
use Rattle.row_machine.specs.Steps.{unchanged, later_or}
use Rattle.sv_types.specs.declared.expression.Expr.{Expr}
use Rattle.sv_types.specs.declared.expression.Form.{Form}
use Rattle.sv_types.specs.declared.expression.Choice.{Choice}
use Rattle.sv_types.specs.declared.types.Value.{Value}
use Rattle.sv_types.specs.Layouts.{Layout, layout, stored}
use Rattle.sv_types.specs.Windows.{Window, within, at_least_0, written, member_of, between, element_of, slide}
use Rattle.sv_types.specs.Surroundings.{Around, Sight, Write, local_number}
use Rattle.sv_types.specs.Meanings.{Meaning, Path, selected, wide}
use Rattle.sv_types.specs.Operators as O
use Rattle.sv_types.specs.Operators.{Alternative, puts_all, width_of_all}
use Rattle.sv_types.specs.Paths as P
use Rattle.sv_types.specs.Paths.{root_path}
use Rattle.sv_types.specs.Flows.{covers, covered, uses_of, surely_written}
use Rattle.sv_types.specs.Expressions.{meaning}
use Rattle.sv_types.proofs.Levels as L
use Rattle.sv_types.proofs.Levels.{form_meaning, meaning-form}
use Rattle.sv_types.proofs.Terms.{Steps, Each, by-expr}
use Rattle.flow_laws.specs.Hangs.{Seen, Agree, Hangs}
use Rattle.flow_laws.specs.Places.{IsPlace}
use Rattle.flow_laws.proofs.Agreeing as A
use Rattle.flow_laws.proofs.Selects as S
use Rattle.flow_laws.proofs.Hanging.{hangs}

-- whether bits are written, by whether the signal and the bit are there
pub none-there : (b : Bool) (x : Option Bit4) → b ≡ false → cond b x None ≡ None
none-there b x h = ap (λ c. cond c x None) h

pub some-there : (b : Bool) (x : Bit4) → b ≡ true → is_some (cond b (Some x) None) ≡ true
some-there b x h = ap (λ c. is_some (cond c (Some x) None)) h

pub same-number : (n m : ℕ) → (n == m) ≡ true → (m == n) ≡ true
same-number n m h = eq-eqb m n (sym (eqb-true n m h))

-- what isn't in the use isn't in a window inside it
pub outside : (n m : ℕ) (inner outer : Bool) → (inner ≡ true → outer ≡ true) → ((n == m) && outer) ≡ false → ((m == n) && inner) ≡ false
outside n m inner outer inside none = by (m == n) inner refl refl
  where
    by : (b c : Bool) → (m == n) ≡ b → inner ≡ c → (b && c) ≡ false
    by true true f g = sym (sym none ∙ ap (λ x. x && outer) (same-number m n f) ∙ inside g)
    by true false f g = refl
    by false c f g = refl

pub selected-place : (of : Layout) (at : ℕ) (r : Option ℕ) (p : Path) → Hangs (selected of at (record p { root = r })) → IsPlace (selected of at (record p { root = r }))
selected-place of at None p h = record {
  same = λ k a b sa sb agree v q. refl;
  within = λ k a sa v q is. refl;
  sure = λ k a sa v q is. absurd (false≢true is);
}
selected-place of at (Some n) p h = record {
  same = λ k a b sa sb agree v q. ap (λ (path : Window). written n path (stored of.two_state v) q) (h.moves.window k a b sa sb agree);
  within = λ k a sa v q is.
      none-there _ (Some (slice_index_or (stored of.two_state v) (at_least_0 (pos q.bit -ℤ (p.window a).shift)) X))
      (outside n q.signal (within (p.window a) q.bit) (within (p.prefix k).window q.bit) (h.moves.within k a sa q.bit) (or_parts (covers (record { number = n; low = (p.prefix k).window.low; high = (p.prefix k).window.high; at = at }) q) false is).0);
  sure = λ k a sa v q is. sure k a sa v q (or-true ((p.prefix k).exact && covers (record { number = n; low = (p.prefix k).window.low; high = (p.prefix k).window.high; at = at }) q) is);
}
  where
    or-true : (b : Bool) → (b || false) ≡ true → b ≡ true
    or-true true g = refl
    or-true false g = g

    sure : (k : Sight) (a : Around) → Seen k a → (v : List Bit4) (q : Place) → ((p.prefix k).exact && ((n == q.signal) && within (p.prefix k).window q.bit)) ≡ true
        → is_some (written n (p.window a) (stored of.two_state v) q) ≡ true
    sure k a sa v q is =
        let parts = and_parts (p.prefix k).exact ((n == q.signal) && within (p.prefix k).window q.bit) is in
        let two = and_parts (n == q.signal) (within (p.prefix k).window q.bit) parts.1 in
        let window = h.moves.exact k a sa parts.0 in
        some-there ((q.signal == n) && within (p.window a) q.bit) (slice_index_or (stored of.two_state v) (at_least_0 (pos q.bit -ℤ (p.window a).shift)) X)
        (ap (λ b. b && within (p.window a) q.bit) (same-number n q.signal two.0) ∙ ap (λ (w : Window). within w q.bit) window ∙ two.1)

-- an expression that can't be written
abbrev pub IsNoPlace : Meaning → Type 0
IsNoPlace m = ((k : Sight) → m.writes k ≡ []) × ((a : Around) (v : List Bit4) → m.puts a v ≡ unchanged)

no-place : (m : Meaning) → IsNoPlace m → IsPlace m
no-place m h = record {
  same = λ k a b sa sb agree v q. ap (λ (c : Changes). c q) (h.1 a v ∙ sym (h.1 b v));
  within = λ k a sa v q is. ap (λ (c : Changes). c q) (h.1 a v);
  sure = λ k a sa v q is. absurd (false≢true (sym (ap (λ ws. surely_written ws q) (h.0 k)) ∙ is));
}

-- the parts of a target together
abbrev pub AllPlaces : List Meaning → Type 0
AllPlaces [] = Unit {0}
AllPlaces (m ∷ ms) = IsPlace m × AllPlaces ms

pub later-same : (x x' y y' : Option Bit4) → x ≡ x' → y ≡ y' → later_or x y ≡ later_or x' y'
later-same x x' y y' h g = ap (λ z. later_or z y) h ∙ ap (later_or x') g

pub later-some : (x y : Option Bit4) → is_some x ≡ true → is_some (later_or x y) ≡ true
later-some (Some b) y h = refl
later-some None y h = absurd (false≢true h)

pub earlier-some : (x y : Option Bit4) → is_some y ≡ true → is_some (later_or x y) ≡ true
earlier-some (Some b) y h = refl
earlier-some None y h = h

pub any-append : (f : Write → Bool) (xs ys : List Write) → list_any f (xs ++ ys) ≡ (list_any f xs || list_any f ys)
any-append f [] ys = refl
any-append f (x ∷ xs) ys = ap (λ b. f x || b) (any-append f xs ys) ∙ assoc (f x) (list_any f xs) (list_any f ys)
  where
    assoc : (a b c : Bool) → (a || (b || c)) ≡ ((a || b) || c)
    assoc true b c = refl
    assoc false b c = refl

pub covered-writes : (xs ys : List Write) (q : Place) → covered (uses_of (xs ++ ys)) q ≡ (covered (uses_of xs) q || covered (uses_of ys) q)
covered-writes [] ys q = refl
covered-writes (x ∷ xs) ys q = ap (λ b. covers x.of q || b) (covered-writes xs ys q) ∙ assoc (covers x.of q) (covered (uses_of xs) q) (covered (uses_of ys) q)
  where
    assoc : (a b c : Bool) → (a || (b || c)) ≡ ((a || b) || c)
    assoc true b c = refl
    assoc false b c = refl

pub all-same : (ms : List Meaning) (k : Sight) (a b : Around) → AllPlaces ms → Seen k a → Seen k b → Agree (flat_map (λ (m : Meaning). m.indices k) ms) a b → (v : List Bit4) (q : Place) → puts_all ms a v q ≡ puts_all ms b v q
all-same [] k a b h sa sb agree v q = refl
all-same (m ∷ ms) k a b h sa sb agree v q =
    later-same (puts_all ms a v q) (puts_all ms b v q) (m.puts a (take (wide m) (drop (width_of_all ms) v)) q) (m.puts b (take (wide m) (drop (width_of_all ms) v)) q)
    (all-same ms k a b h.1 sa sb (A.agree-right (m.indices k) (flat_map (λ (n : Meaning). n.indices k) ms) a b agree) v q)
    (h.0.same k a b sa sb (A.agree-left (m.indices k) (flat_map (λ (n : Meaning). n.indices k) ms) a b agree) (take (wide m) (drop (width_of_all ms) v)) q)

pub all-within : (ms : List Meaning) (k : Sight) (a : Around) → AllPlaces ms → Seen k a → (v : List Bit4) (q : Place) → covered (uses_of (flat_map (λ (m : Meaning). m.writes k) ms)) q ≡ false → puts_all ms a v q ≡ None
all-within [] k a h sa v q is = refl
all-within (m ∷ ms) k a h sa v q is =
    let parts = or_parts (covered (uses_of (m.writes k)) q) (covered (uses_of (flat_map (λ (n : Meaning). n.writes k) ms)) q) (sym (covered-writes (m.writes k) (flat_map (λ (n : Meaning). n.writes k) ms) q) ∙ is) in
    later-same (puts_all ms a v q) None (m.puts a (take (wide m) (drop (width_of_all ms) v)) q) None (all-within ms k a h.1 sa v q parts.1) (h.0.within k a sa (take (wide m) (drop (width_of_all ms) v)) q parts.0)

pub all-sure : (ms : List Meaning) (k : Sight) (a : Around) → AllPlaces ms → Seen k a → (v : List Bit4) (q : Place) → surely_written (flat_map (λ (m : Meaning). m.writes k) ms) q ≡ true → is_some (puts_all ms a v q) ≡ true
all-sure [] k a h sa v q is = absurd (false≢true is)
all-sure (m ∷ ms) k a h sa v q is =
    by (or_cases (surely_written (m.writes k) q) (surely_written (flat_map (λ (n : Meaning). n.writes k) ms) q) (sym (any-append (λ w. w.exact && covers w.of q) (m.writes k) (flat_map (λ (n : Meaning). n.writes k) ms)) ∙ is))
    (all-sure ms k a h.1 sa v q)
  where
    by : (surely_written (m.writes k) q ≡ true) ⊎ (surely_written (flat_map (λ (n : Meaning). n.writes k) ms) q ≡ true)
        → (surely_written (flat_map (λ (n : Meaning). n.writes k) ms) q ≡ true → is_some (puts_all ms a v q) ≡ true)
        → is_some (later_or (puts_all ms a v q) (m.puts a (take (wide m) (drop (width_of_all ms) v)) q)) ≡ true
    by (inl x) f = earlier-some (puts_all ms a v q) (m.puts a (take (wide m) (drop (width_of_all ms) v)) q) (h.0.sure k a sa (take (wide m) (drop (width_of_all ms) v)) q x)
    by (inr y) f = later-some (puts_all ms a v q) (m.puts a (take (wide m) (drop (width_of_all ms) v)) q) (f y)

place-concat : (of : Layout) (at : ℕ) (ms : List Meaning) → AllPlaces ms → IsPlace (O.concat of at ms)
unfolding O.concat
place-concat of at ms h = record {
  same = λ k a b sa sb agree v q. all-same ms k a b h sa sb agree v q;
  within = λ k a sa v q is. all-within ms k a h sa v q is;
  sure = λ k a sa v q is. all-sure ms k a h sa v q is;
}

place-stream : (of : Layout) (at : ℕ) (reversed : Bool) (n : ℕ) (ms : List Meaning) → AllPlaces ms → IsPlace (O.stream of at reversed n ms)
unfolding O.stream
place-stream of at reversed n ms h = record {
  same = λ k a b sa sb agree v q. all-same ms k a b h sa sb agree (O.streamed reversed n v) q;
  within = λ k a sa v q is. all-within ms k a h sa (O.streamed reversed n v) q is;
  sure = λ k a sa v q is. all-sure ms k a h sa (O.streamed reversed n v) q is;
}

place-signal : (of : Layout) (at n : ℕ) → Hangs (P.signal of at n) → IsPlace (P.signal of at n)
unfolding P.signal
place-signal of at n h = selected-place of at (Some n) (root_path n of) h

place-local : (of : Layout) (at n : ℕ) → Hangs (P.local of at n) → IsPlace (P.local of at n)
unfolding P.local
place-local of at n h = selected-place of at (Some (local_number n)) (root_path (local_number n) of) h

place-member : (of : Layout) (at : ℕ) (m : Meaning) (k : ℕ) → Hangs (P.member of at m k) → IsPlace (P.member of at m k)
unfolding P.member
place-member of at m k h = selected-place of at m.root (P.fixed_step (member_of (slice_get m.of.members k)) _ m) h

place-index : (of : Layout) (at : ℕ) (m i : Meaning) → Hangs (P.index of at m i) → IsPlace (P.index of at m i)
unfolding P.index
place-index of at m i h = selected-place of at m.root (P.indexed_step (element_of m.of) _ m i) h

place-part : (of : Layout) (at : ℕ) (m : Meaning) (left right : ℤ) → Hangs (P.part_select of at m left right) → IsPlace (P.part_select of at m left right)
unfolding P.part_select
place-part of at m left right h = selected-place of at m.root (P.fixed_step (between m.of left right) _ m) h

place-sliding : (of : Layout) (at : ℕ) (m i : Meaning) (n : ℕ) (up : Bool) → Hangs (P.sliding of at m i n up) → IsPlace (P.sliding of at m i n up)
unfolding P.sliding
place-sliding of at m i n up h = selected-place of at m.root (P.indexed_step (slide m.of up n) _ m i) h

place-literal : (of : Layout) (at : ℕ) (goes_on : Bool) (v : List Bit4) → IsPlace (O.literal of at goes_on v)
unfolding O.literal
place-literal of at goes_on v = no-place _ ((λ k. refl), λ a v. refl)

place-fill : (of : Layout) (at : ℕ) (b : Bit4) → IsPlace (O.fill of at b)
unfolding O.fill
place-fill of at b = no-place _ ((λ k. refl), λ a v. refl)

place-constant : (of : Layout) (at : ℕ) (v : Value) → IsPlace (O.constant of at v)
unfolding O.constant
place-constant of at v = no-place _ ((λ k. refl), λ a v. refl)

place-unary : (of : Layout) (at : ℕ) (op : _) (m : Meaning) → IsPlace (O.unary of at op m)
unfolding O.unary
place-unary of at op m = no-place _ ((λ k. refl), λ a v. refl)

place-reduce : (of : Layout) (at : ℕ) (op : _) (m : Meaning) → IsPlace (O.reduce of at op m)
unfolding O.reduce
place-reduce of at op m = no-place _ ((λ k. refl), λ a v. refl)

place-negate : (of : Layout) (at : ℕ) (m : Meaning) → IsPlace (O.negate of at m)
unfolding O.negate
place-negate of at m = no-place _ ((λ k. refl), λ a v. refl)

place-binary : (of : Layout) (at : ℕ) (op : _) (l r : Meaning) → IsPlace (O.binary of at op l r)
unfolding O.binary
place-binary of at op l r = no-place _ ((λ k. refl), λ a v. refl)

place-shift : (of : Layout) (at : ℕ) (op : _) (l r : Meaning) → IsPlace (O.shift of at op l r)
unfolding O.shift
place-shift of at op l r = no-place _ ((λ k. refl), λ a v. refl)

place-power : (of : Layout) (at : ℕ) (l r : Meaning) → IsPlace (O.power of at l r)
unfolding O.power
place-power of at l r = no-place _ ((λ k. refl), λ a v. refl)

place-order : (of : Layout) (at : ℕ) (op : _) (l r : Meaning) → IsPlace (O.order of at op l r)
unfolding O.order
place-order of at op l r = no-place _ ((λ k. refl), λ a v. refl)

place-equal : (of : Layout) (at : ℕ) (op : _) (negated : Bool) (l r : Meaning) → IsPlace (O.equal of at op negated l r)
unfolding O.equal
place-equal of at op negated l r = no-place _ ((λ k. refl), λ a v. refl)

place-both : (of : Layout) (at : ℕ) (l r : Meaning) → IsPlace (O.both of at l r)
unfolding O.both
place-both of at l r = no-place _ ((λ k. refl), λ a v. refl)

place-either : (of : Layout) (at : ℕ) (l r : Meaning) → IsPlace (O.either of at l r)
unfolding O.either
place-either of at l r = no-place _ ((λ k. refl), λ a v. refl)

place-choose : (of : Layout) (at : ℕ) (on l r : Meaning) → IsPlace (O.choose of at on l r)
unfolding O.choose
place-choose of at on l r = no-place _ ((λ k. refl), λ a v. refl)

place-repeat : (of : Layout) (at : ℕ) (n : ℕ) (ms : List Meaning) → IsPlace (O.repeat of at n ms)
unfolding O.repeat
place-repeat of at n ms = no-place _ ((λ k. refl), λ a v. refl)

place-inside : (of : Layout) (at : ℕ) (m : Meaning) (cs : List Alternative) → IsPlace (O.inside of at m cs)
unfolding O.inside
place-inside of at m cs = no-place _ ((λ k. refl), λ a v. refl)

place-cast : (of : Layout) (at : ℕ) (m : Meaning) → IsPlace (O.cast of at m)
unfolding O.cast
place-cast of at m = no-place _ ((λ k. refl), λ a v. refl)

place-clog2 : (of : Layout) (at : ℕ) (m : Meaning) → IsPlace (O.clog2 of at m)
unfolding O.clog2
place-clog2 of at m = no-place _ ((λ k. refl), λ a v. refl)

place-pattern : (of : Layout) (at : ℕ) (ms : List Meaning) → IsPlace (O.pattern of at ms)
unfolding O.pattern
place-pattern of at ms = no-place _ ((λ k. refl), λ a v. refl)

place-call : (of : Layout) (at : ℕ) (f : ℕ) (ms : List Meaning) → IsPlace (O.call of at f ms)
unfolding O.call
place-call of at f ms = no-place _ ((λ k. refl), λ a v. refl)

abbrev PlaceForm : Form → Type 0
PlaceForm f = (of : Layout) (at : ℕ) → IsPlace (form_meaning f of at)

by-step : (f : Form) (y : Layout → ℕ → Meaning) → form_meaning f ≡ y → ((of : Layout) (at : ℕ) → IsPlace (y of at)) → PlaceForm f
by-step f y is h of at = subst (λ (g : Layout → ℕ → Meaning). IsPlace (g of at)) (sym is) (h of at)

abbrev PlaceExpr : Expr → Type 0
PlaceExpr e = IsPlace (meaning e)

abbrev Any : Choice → Type 0
Any c = Unit {0}

all : (es : List Expr) → Each PlaceExpr es → AllPlaces (map meaning es)
all [] h = tt
all (e ∷ es) h = (h.0, all es h.1)

steps : Steps Any PlaceForm PlaceExpr
steps = record {
  value = λ e h. tt;
  range = λ a b h g. tt;
  expr = λ e h. subst IsPlace (sym (meaning-form e)) (h (layout e.of) e.spot.at);
  literal = λ v goes_on. by-step _ _ (L.form-Literal v goes_on) (λ of at. place-literal of at goes_on v);
  fill = λ b. by-step _ _ (L.form-Fill b) (λ of at. place-fill of at b);
  constant = λ v. by-step _ _ (L.form-Constant v) (λ of at. place-constant of at v);
  signal = λ n. by-step _ _ (L.form-Signal n) (λ of at. place-signal of at n (S.signal-hangs of at n));
  local = λ n. by-step _ _ (L.form-Local n) (λ of at. place-local of at n (S.local-hangs of at n));
  member = λ e k h. by-step _ _ (L.form-Member e k) (λ of at. place-member of at (meaning e) k (S.member-hangs of at (meaning e) k (hangs e)));
  index = λ e i h g. by-step _ _ (L.form-Index e i) (λ of at. place-index of at (meaning e) (meaning i) (S.index-hangs of at (meaning e) (meaning i) (hangs e) (hangs i)));
  part_select = λ e left right h. by-step _ _ (L.form-Part e left right) (λ of at. place-part of at (meaning e) left right (S.part-hangs of at (meaning e) left right (hangs e)));
  sliding = λ e i n up h g. by-step _ _ (L.form-Slide e i n up) (λ of at. place-sliding of at (meaning e) (meaning i) n up (S.sliding-hangs of at (meaning e) (meaning i) n up (hangs e) (hangs i)));
  unary = λ op e h. by-step _ _ (L.form-Unary op e) (λ of at. place-unary of at op (meaning e));
  reduce = λ op e h. by-step _ _ (L.form-Reduce op e) (λ of at. place-reduce of at op (meaning e));
  negate = λ e h. by-step _ _ (L.form-Negate e) (λ of at. place-negate of at (meaning e));
  binary = λ op a b h g. by-step _ _ (L.form-Binary op a b) (λ of at. place-binary of at op (meaning a) (meaning b));
  shift = λ op a b h g. by-step _ _ (L.form-Shift op a b) (λ of at. place-shift of at op (meaning a) (meaning b));
  power = λ a b h g. by-step _ _ (L.form-Power a b) (λ of at. place-power of at (meaning a) (meaning b));
  order = λ op a b h g. by-step _ _ (L.form-Order op a b) (λ of at. place-order of at op (meaning a) (meaning b));
  equal = λ op negated a b h g. by-step _ _ (L.form-Equal op negated a b) (λ of at. place-equal of at op negated (meaning a) (meaning b));
  both = λ a b h g. by-step _ _ (L.form-Both a b) (λ of at. place-both of at (meaning a) (meaning b));
  either = λ a b h g. by-step _ _ (L.form-Either a b) (λ of at. place-either of at (meaning a) (meaning b));
  choose = λ on a b h g k. by-step _ _ (L.form-Choose on a b) (λ of at. place-choose of at (meaning on) (meaning a) (meaning b));
  concat = λ es h. by-step _ _ (L.form-Concat es) (λ of at. place-concat of at (map meaning es) (all es h));
  repeat = λ n es h. by-step _ _ (L.form-Repeat n es) (λ of at. place-repeat of at n (map meaning es));
  inside = λ e cs h g. by-step _ _ (L.form-Inside e cs) (λ of at. place-inside of at (meaning e) (map L.alternative cs));
  cast = λ e h. by-step _ _ (L.form-Cast e) (λ of at. place-cast of at (meaning e));
  clog2 = λ e h. by-step _ _ (L.form-Clog2 e) (λ of at. place-clog2 of at (meaning e));
  pattern = λ es h. by-step _ _ (L.form-Pattern es) (λ of at. place-pattern of at (map meaning es));
  call = λ f es h. by-step _ _ (L.form-Call f es) (λ of at. place-call of at f (map meaning es));
  stream = λ reversed n es h. by-step _ _ (L.form-Stream reversed n es) (λ of at. place-stream of at reversed n (map meaning es) (all es h));
}

pub places : (e : Expr) → IsPlace (meaning e)
places = by-expr Any PlaceForm PlaceExpr steps
