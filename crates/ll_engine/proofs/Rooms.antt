-- A derivation that counts nesting another way.
use Rattle.std.proofs.Common.{◌≡◌, ℕ, List, [], ◌∷◌, Bool, true, false, refl, sym, ◌∙◌, ap, subst, cond}
use Rattle.ll_engine.specs.declared.table.Part.{Part}
use Rattle.ll_engine.specs.declared.table.Part.TheVariants.{Term, Non, Maybe, Many, Chain}
use Rattle.ll_engine.specs.declared.table.Row.{Row}
use Rattle.ll_engine.specs.declared.tree.Tree.{Tree}
use Rattle.ll_engine.specs.Grammar.{IsBegun}
use Rattle.ll_engine.specs.Reading.{Nested, at_nesting, next, level, inside, Reads}

abbrev pub rooms : (ℕ → ℕ) → List Nested → List Nested
rooms f [] = []
rooms f (at_nesting s n ∷ w) = at_nesting s (f n) ∷ rooms f w

pub next-rooms : (f : ℕ → ℕ) (w : List Nested) → next (rooms f w) ≡ next w
next-rooms f [] = refl
next-rooms f (at_nesting s n ∷ w) = refl

module _ (t : List Row) (f g h : ℕ → ℕ) (steps : (n : ℕ) → f (g n) ≡ h (f n)) where
  level_is : (p : Part) (d e : ℕ) → f (level g p d e) ≡ level h p (f d) (f e)
  level_is (Term a) d e = refl
  level_is (Non a) d e = refl
  level_is (Maybe a) d e = refl
  level_is (Many a) d e = refl
  level_is (Chain a) d e = steps e

  inside_bool : (b : Bool) (n : ℕ) → f (cond b (g n) n) ≡ cond b (h (f n)) (f n)
  inside_bool true n = steps n
  inside_bool false n = refl

  inside_is : (row : Row) (n : ℕ) → f (inside g row n) ≡ inside h row (f n)
  inside_is row n = inside_bool row.deep n

  pub to_rooms : {d e at to : ℕ} {ps : List Part} {w rest : List Nested} {ts : List Tree}
      → Reads t g d e ps at w ts to rest → Reads t h (f d) (f e) ps at (rooms f w) ts to (rooms f rest)
  to_rooms (Reads.ended e i) = Reads.ended e (ap (rooms f) i)
  to_rooms (Reads.symbol e n l r) = Reads.symbol e (ap f n) l (to_rooms r)
  to_rooms {d} {e} {at} {to} {ps} {w} {rest} (Reads.taken {n = n} {mid = mid} {p = p} {ps = qs} {row = row} {u = u} {kids = kids} {ts = us} nm s b l x inner behind) =
      Reads.taken nm s (subst (λ q. IsBegun t row.parts q) (sym (next-rooms f w)) b)
      (ap f l ∙ level_is p d e) x
      (subst (λ q. Reads t h q q row.parts at (rooms f w) kids mid (rooms f u)) (inside_is row n) (to_rooms inner))
      (to_rooms behind)
  to_rooms {w = w} (Reads.left_out {p = p} o n r) =
      Reads.left_out o (λ b. n (subst (λ q. IsBegun t (p ∷ []) q) (next-rooms f w) b)) (to_rooms r)
  to_rooms {d} {e} {at} {to} {ps} {w} {rest} (Reads.empty {mid = mid} {p = p} {row = row} {u = u} {kids = kids} o nm n s b x inner behind) =
      Reads.empty o nm (λ c. n (subst (λ q. IsBegun t (p ∷ []) q) (next-rooms f w) c)) s b x
      (subst (λ q. Reads t h q q row.parts at (rooms f w) kids mid (rooms f u)) (inside_is row d) (to_rooms inner))
      (to_rooms behind)

  pub record Origin (d e : ℕ) (ps : List Part) (at : ℕ) (v : List Nested) (ts : List Tree) (to : ℕ) (rest : List Nested) : Type 0 where
    pub text : List Nested
    pub is_rooms : rooms f text ≡ v
    pub reads : Reads t g d e ps at text ts to rest

  begun_origin : (w v : List Nested) (ps : List Part) → rooms f w ≡ v → IsBegun t ps (next v) → IsBegun t ps (next w)
  begun_origin w v ps e b = subst (λ q. IsBegun t ps q) (sym (ap next e) ∙ next-rooms f w) b

  unbegun_origin : (w v : List Nested) (ps : List Part) → rooms f w ≡ v → (IsBegun t ps (next v) → ⊥) → IsBegun t ps (next w) → ⊥
  unbegun_origin w v ps e n b = n (subst (λ q. IsBegun t ps q) (sym (next-rooms f w) ∙ ap next e) b)

  pub from_rooms : {i j at to : ℕ} {ps : List Part} {v u : List Nested} {ts : List Tree}
      → Reads t h i j ps at v ts to u → (d e : ℕ) → i ≡ f d → j ≡ f e → (rest : List Nested) → rooms f rest ≡ u
      → Origin d e ps at v ts to rest
  from_rooms (Reads.ended a b) d e x y rest z = record { text = rest; is_rooms = z ∙ sym b; reads = Reads.ended a refl }
  from_rooms {at = at} (Reads.symbol {s = s} {n = m} {w = w} a n l r) d e x y rest z =
      let o = from_rooms r d d x x rest z in
      record {
        text = at_nesting s d ∷ o.text;
        is_rooms = ap (λ q. at_nesting s q ∷ rooms f o.text) (sym (n ∙ x)) ∙ ap (λ q. at_nesting s m ∷ q) o.is_rooms;
        reads = Reads.symbol a refl l o.reads;
      }
  from_rooms {j = j} {v = v} (Reads.taken {p = p} {row = row} nm s b l k inner behind) d e x y rest z =
      let n = l ∙ (ap (λ q. level h p q j) x ∙ (ap (λ q. level h p (f d) q) y ∙ sym (level_is p d e))) in
      let o = from_rooms behind d (level g p d e) x n rest z in
      let m = ap (λ q. inside h row q) n ∙ sym (inside_is row (level g p d e)) in
      let q = from_rooms inner (inside g row (level g p d e)) (inside g row (level g p d e)) m m o.text o.is_rooms in
      record {
        text = q.text;
        is_rooms = q.is_rooms;
        reads = Reads.taken nm s (begun_origin q.text v row.parts q.is_rooms b) refl k q.reads o.reads;
      }
  from_rooms {v = v} (Reads.left_out {p = p} c n r) d e x y rest z =
      let o = from_rooms r d d x x rest z in
      record {
        text = o.text;
        is_rooms = o.is_rooms;
        reads = Reads.left_out c (unbegun_origin o.text v (p ∷ []) o.is_rooms n) o.reads;
      }
  from_rooms {v = v} (Reads.empty {p = p} {row = row} c nm n s b k inner behind) d e x y rest z =
      let o = from_rooms behind d d x x rest z in
      let m = ap (λ q. inside h row q) x ∙ sym (inside_is row d) in
      let q = from_rooms inner (inside g row d) (inside g row d) m m o.text o.is_rooms in
      record {
        text = q.text;
        is_rooms = q.is_rooms;
        reads = Reads.empty c nm (unbegun_origin q.text v (p ∷ []) q.is_rooms n) s b k q.reads o.reads;
      }
