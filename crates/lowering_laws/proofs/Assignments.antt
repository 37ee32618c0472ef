-- An assignment is made piece by piece, under guards.
use Rattle.std.proofs.Common.{◌≡◌, Bool, true, false, cond, take, drop, List, [], ◌∷◌, Option, Some, None, refl, sym, ◌∙◌, subst, ap}
use Rattle.b4_core.specs.declared.bit.Bit4.{Bit4}
use Rattle.row_machine.specs.Valuation.{Place, Valuation, Changes, put, changed}
use Rattle.row_machine.specs.Steps.{unchanged, then_changes, later_or}
use Rattle.sv_types.specs.Surroundings.{Around}
use Rattle.sv_types.specs.Meanings as M
use Rattle.sv_types.specs.Runs as S
use Rattle.v_meaning.specs.Scopes.{Scope}
use Rattle.v_meaning.specs.Values as V
use Rattle.v_meaning.specs.Statements as D
use Rattle.v_meaning.specs.Runs as T
use Rattle.lowering_laws.specs.Agreeing.{Images, Agree, SameChanges, SameRun}
use Rattle.lowering_laws.specs.Placed.{holds}
use Rattle.lowering_laws.specs.Reached.{Piece, piece_puts, pieces_put, AreWide}
use Rattle.lowering_laws.proofs.Runs.{then-same, then-agrees}

-- `to = value`, under a guard if there is one
abbrev pub under : Option V.Meaning → D.Doing → D.Doing
under None d = d
under (Some g) d = D.conditional g d D.nothing

abbrev pub guarded-assignment : Bool → Piece → V.Meaning → D.Doing
guarded-assignment later p m = under p.guard (D.assignment later p.to m)

-- piece by piece, each with an expression for its bits
abbrev pub assignments : Bool → List Piece → List V.Meaning → List D.Doing
assignments later [] ms = []
assignments later (p ∷ ps) [] = []
assignments later (p ∷ ps) (m ∷ ms) = guarded-assignment later p m ∷ assignments later ps ms

-- each expression gives its piece the piece's bits of a value
abbrev pub AreGiven : List Piece → List V.Meaning → List Bit4 → Scope → Valuation → Type 0
AreGiven [] [] bits sc v = Unit {0}
AreGiven [] (m ∷ ms) bits sc v = ⊥
AreGiven (p ∷ ps) [] bits sc v = ⊥
AreGiven (p ∷ ps) (m ∷ ms) bits sc v = (V.given m p.width sc v ≡ take p.width (drop p.low bits)) × AreGiven ps ms bits sc v

-- what a piece and its value are doesn't hang on what is written
pub record IsSteady (c : Changes) (p : Piece) (m : V.Meaning) (sc : Scope) (v : Valuation) : Type 0 where
  pub guard : (w : Valuation) → ((q : Place) → c q ≡ None → w q ≡ v q) → holds p.guard sc w ≡ holds p.guard sc v
  pub puts : (w : Valuation) → ((q : Place) → c q ≡ None → w q ≡ v q) → (bits : List Bit4) → p.to.puts sc w bits ≡ p.to.puts sc v bits
  pub given : (w : Valuation) → ((q : Place) → c q ≡ None → w q ≡ v q) → V.given m p.width sc w ≡ V.given m p.width sc v

abbrev pub AreSteady : Changes → List Piece → List V.Meaning → Scope → Valuation → Type 0
AreSteady c [] ms sc v = Unit {0}
AreSteady c (p ∷ ps) [] sc v = Unit {0}
AreSteady c (p ∷ ps) (m ∷ ms) sc v = IsSteady c p m sc v × AreSteady c ps ms sc v

guarded-run : (later : Bool) (p : Piece) (m : V.Meaning) (sc : Scope) (v : Valuation) (u : T.State)
    → (guarded-assignment later p m).run sc v u
    ≡ T.one_of (holds p.guard sc (T.current v u)) (λ c x t. T.assign_as later (D.changes_of p.to m c (T.current x t)) t) T.idle sc v u
unfolding D.assignment D.conditional
guarded-run later p m sc v u = by p.guard
  where
    by : (g : Option V.Meaning) → (under g (D.assignment later p.to m)).run sc v u
        ≡ T.one_of (holds g sc (T.current v u)) (λ c x t. T.assign_as later (D.changes_of p.to m c (T.current x t)) t) T.idle sc v u
    by None = refl
    by (Some k) = refl

-- what one piece does
piece-changes : (p : Piece) (m : V.Meaning) (bits : List Bit4) (sc : Scope) (v : Valuation) → p.to.width sc ≡ p.width → V.given m p.width sc v ≡ take p.width (drop p.low bits)
    → D.changes_of p.to m sc v ≡ p.to.puts sc v (take p.width (drop p.low bits))
piece-changes p m bits sc v width given = ap (λ k. p.to.puts sc v (V.given m k sc v)) width ∙ ap (p.to.puts sc v) given

pub record IsMadeLater (c : Changes) (u t : T.State) : Type 0 where
  pub written : t.written ≡ u.written
  pub pending : (q : Place) → t.pending q ≡ then_changes u.pending c q

pub record IsMadeNow (c : Changes) (u t : T.State) : Type 0 where
  pub pending : t.pending ≡ u.pending
  pub written : (q : Place) → t.written q ≡ then_changes u.written c q

piece-later : (p : Piece) (m : V.Meaning) (bits : List Bit4) (sc : Scope) (v : Valuation) (u : T.State) → p.to.width sc ≡ p.width
    → V.given m p.width sc (T.current v u) ≡ take p.width (drop p.low bits) → IsMadeLater (piece_puts p sc (T.current v u) bits) u ((guarded-assignment true p m).run sc v u)
piece-later p m bits sc v u width given = subst (IsMadeLater (piece_puts p sc (T.current v u) bits) u) (sym (guarded-run true p m sc v u)) (by (holds p.guard sc (T.current v u)) refl)
  where
    by : (b : Bool) → holds p.guard sc (T.current v u) ≡ b
        → IsMadeLater (piece_puts p sc (T.current v u) bits) u (T.one_of b (λ c x t. T.assign_as true (D.changes_of p.to m c (T.current x t)) t) T.idle sc v u)
    by true h = record {
      written = refl;
      pending = λ q.
          ap (λ (c : Changes). then_changes u.pending c q) (piece-changes p m bits sc (T.current v u) width given)
          ∙ sym (ap (λ b. later_or (cond b (p.to.puts sc (T.current v u) (take p.width (drop p.low bits))) unchanged q) (u.pending q)) h);
    }
    by false h = record {
      written = refl;
      pending = λ q. sym (ap (λ b. later_or (cond b (p.to.puts sc (T.current v u) (take p.width (drop p.low bits))) unchanged q) (u.pending q)) h);
    }

piece-now : (p : Piece) (m : V.Meaning) (bits : List Bit4) (sc : Scope) (v : Valuation) (u : T.State) → p.to.width sc ≡ p.width
    → V.given m p.width sc (T.current v u) ≡ take p.width (drop p.low bits) → IsMadeNow (piece_puts p sc (T.current v u) bits) u ((guarded-assignment false p m).run sc v u)
piece-now p m bits sc v u width given = subst (IsMadeNow (piece_puts p sc (T.current v u) bits) u) (sym (guarded-run false p m sc v u)) (by (holds p.guard sc (T.current v u)) refl)
  where
    by : (b : Bool) → holds p.guard sc (T.current v u) ≡ b
        → IsMadeNow (piece_puts p sc (T.current v u) bits) u (T.one_of b (λ c x t. T.assign_as false (D.changes_of p.to m c (T.current x t)) t) T.idle sc v u)
    by true h = record {
      pending = refl;
      written = λ q.
          ap (λ (c : Changes). then_changes u.written c q) (piece-changes p m bits sc (T.current v u) width given)
          ∙ sym (ap (λ b. later_or (cond b (p.to.puts sc (T.current v u) (take p.width (drop p.low bits))) unchanged q) (u.written q)) h);
    }
    by false h = record {
      pending = refl;
      written = λ q. sym (ap (λ b. later_or (cond b (p.to.puts sc (T.current v u) (take p.width (drop p.low bits))) unchanged q) (u.written q)) h);
    }

later-again : (x y z : Option Bit4) → later_or (later_or x y) z ≡ later_or x (later_or y z)
later-again None y z = refl
later-again (Some b) y z = refl

-- all pieces, one after the other: of nonblocking assignments no one sees what another one did
pub pieces-later : (ps : List Piece) (ms : List V.Meaning) (bits : List Bit4) (sc : Scope) (v : Valuation) (u : T.State) → AreWide ps sc → AreGiven ps ms bits sc (T.current v u)
    → IsMadeLater (pieces_put ps sc (T.current v u) bits) u ((D.sequence (assignments true ps ms)).run sc v u)
pieces-later [] [] bits sc v u wide given = record { written = refl; pending = λ q. refl }
pieces-later [] (m ∷ ms) bits sc v u wide given = absurd given
pieces-later (p ∷ ps) [] bits sc v u wide given = absurd given
pieces-later (p ∷ ps) (m ∷ ms) bits sc v u wide given =
    let t = (guarded-assignment true p m).run sc v u in
    let first = piece-later p m bits sc v u wide.0 given.0 in
    let same : T.current v t ≡ T.current v u = ap (λ (c : Changes). put c v) first.written in
    let rest = pieces-later ps ms bits sc v t wide.1 (subst (AreGiven ps ms bits sc) (sym same) given.1) in
    record {
      written = rest.written ∙ first.written;
      pending = λ q.
          rest.pending q
          ∙ (λ i. later_or (pieces_put ps sc (same i) bits q) (first.pending q i))
          ∙ sym (later-again (pieces_put ps sc (T.current v u) bits q) (piece_puts p sc (T.current v u) bits q) (u.pending q));
    }

-- of blocking ones the indices and values of those behind the first don't hang on what is written
none-behind : (x y : Option Bit4) → later_or x y ≡ None → (x ≡ None) × (y ≡ None)
none-behind None y h = (refl, h)
none-behind (Some b) y h = absurd (cc)

steady-puts : (c : Changes) (p : Piece) (m : V.Meaning) (bits : List Bit4) (sc : Scope) (v w : Valuation) → IsSteady c p m sc v → ((q : Place) → c q ≡ None → w q ≡ v q)
    → (q : Place) → piece_puts p sc w bits q ≡ piece_puts p sc v bits q
steady-puts c p m bits sc v w steady same q = λ i. cond (steady.guard w same i) (steady.puts w same (take p.width (drop p.low bits)) i) unchanged q

-- v is what was current before all of them, and c all that they change
steady-now : (c : Changes) (ps : List Piece) (ms : List V.Meaning) (bits : List Bit4) (sc : Scope) (x : Valuation) (u : T.State) (v : Valuation) → AreWide ps sc → AreGiven ps ms bits sc v
    → AreSteady c ps ms sc v → ((q : Place) → c q ≡ None → T.current x u q ≡ v q) → ((q : Place) → c q ≡ None → pieces_put ps sc v bits q ≡ None)
    → IsMadeNow (pieces_put ps sc v bits) u ((D.sequence (assignments false ps ms)).run sc x u)
steady-now c [] [] bits sc x u v wide given steady same inside = record { pending = refl; written = λ q. refl }
steady-now c [] (m ∷ ms) bits sc x u v wide given steady same inside = absurd given
steady-now c (p ∷ ps) [] bits sc x u v wide given steady same inside = absurd given
steady-now c (p ∷ ps) (m ∷ ms) bits sc x u v wide given steady same inside =
    let t = (guarded-assignment false p m).run sc x u in
    let first = piece-now p m bits sc x u wide.0 (steady.0.given (T.current x u) same ∙ given.0) in
    let puts = steady-puts c p m bits sc v (T.current x u) steady.0 same in
    let both : (q : Place) → c q ≡ None → (pieces_put ps sc v bits q ≡ None) × (piece_puts p sc v bits q ≡ None) = λ q h. none-behind (pieces_put ps sc v bits q) (piece_puts p sc v bits q) (inside q h) in
    let rest = steady-now c ps ms bits sc x t v wide.1 given.1 steady.1
    (λ q h. ap (λ o. changed o (x q)) (first.written q ∙ ap (λ o. later_or o (u.written q)) (puts q ∙ (both q h).1)) ∙ same q h) (λ q h. (both q h).0) in
    record {
      pending = rest.pending ∙ first.pending;
      written = λ q.
          rest.written q
          ∙ ap (λ o. later_or (pieces_put ps sc v bits q) o) (first.written q ∙ ap (λ o. later_or o (u.written q)) (puts q))
          ∙ sym (later-again (pieces_put ps sc v bits q) (piece_puts p sc v bits q) (u.written q));
    }

pub pieces-now : (p : Piece) (ps : List Piece) (m : V.Meaning) (ms : List V.Meaning) (bits : List Bit4) (sc : Scope) (v : Valuation) (u : T.State)
    → AreWide (p ∷ ps) sc → AreGiven (p ∷ ps) (m ∷ ms) bits sc (T.current v u) → AreSteady (pieces_put (p ∷ ps) sc (T.current v u) bits) ps ms sc (T.current v u)
    → IsMadeNow (pieces_put (p ∷ ps) sc (T.current v u) bits) u ((D.sequence (assignments false (p ∷ ps) (m ∷ ms))).run sc v u)
pieces-now p ps m ms bits sc v u wide given steady =
    let w = T.current v u in
    let t = (guarded-assignment false p m).run sc v u in
    let all = pieces_put (p ∷ ps) sc (T.current v u) bits in
    let first = piece-now p m bits sc v u wide.0 given.0 in
    let both : (q : Place) → pieces_put (p ∷ ps) sc (T.current v u) bits q ≡ None → (pieces_put ps sc (T.current v u) bits q ≡ None) × (piece_puts p sc (T.current v u) bits q ≡ None) = λ q h. none-behind (pieces_put ps sc (T.current v u) bits q) (piece_puts p sc (T.current v u) bits q) h in
    let rest = steady-now (pieces_put (p ∷ ps) sc (T.current v u) bits) ps ms bits sc v t (T.current v u) wide.1 given.1 steady
    (λ q h. ap (λ o. changed o (v q)) (first.written q ∙ ap (λ o. later_or o (u.written q)) (both q h).1)) (λ q h. (both q h).0) in
    record {
      pending = rest.pending ∙ first.pending;
      written = λ q.
          rest.written q
          ∙ ap (λ o. later_or (pieces_put ps sc (T.current v u) bits q) o) (first.written q)
          ∙ sym (later-again (pieces_put ps sc (T.current v u) bits q) (piece_puts p sc (T.current v u) bits q) (u.written q));
    }

-- What is known of an assignment at a point of both runs: the pieces change the images as the source changes what they stand
-- for, and each gets its bits of the value.
pub record IsAssigned (im : Images) (later : Bool) (to : List M.Meaning) (value : M.Meaning) (p : Piece) (ps : List Piece) (m : V.Meaning) (ms : List V.Meaning) (a : Around) (sc : Scope) (v : Valuation) : Type 0 where
  pub bits : List Bit4
  pub wide : AreWide (p ∷ ps) sc
  pub given : AreGiven (p ∷ ps) (m ∷ ms) bits sc v
  pub changes : SameChanges im (S.changes_of to value a) (pieces_put (p ∷ ps) sc v bits)
  pub steady : later ≡ false → AreSteady (pieces_put (p ∷ ps) sc v bits) ps ms sc v

module _ (im : Images) (a : Around) (sc : Scope) (to : List M.Meaning) (value : M.Meaning) (p : Piece) (ps : List Piece) (m : V.Meaning) (ms : List V.Meaning) where
  moved-changes : (c d e : Changes) → ((q : Place) → e q ≡ d q) → SameChanges im c d → SameChanges im c e
  moved-changes c d e h same = record { same = λ n b less. h (record { signal = im.number n; bit = im.place n b }) ∙ same.same n b less; stored = same.stored }

  moved-agree : (now v w : Valuation) → ((q : Place) → w q ≡ v q) → Agree im now v → Agree im now w
  moved-agree now v w h agree = record { same = λ n b less. h (record { signal = im.number n; bit = im.place n b }) ∙ agree.same n b less; stored = agree.stored }

  pub assign-same : (later : Bool) → ((now v : Valuation) → Agree im now v → IsAssigned im later to value p ps m ms (record a { now = now }) sc v)
      → SameRun im a sc (S.assign later to value) (D.sequence (assignments later (p ∷ ps) (m ∷ ms))).run
  assign-same true assigned now v s u same =
      let at = assigned (put s.written now) (T.current v u) same.current in
      let made = pieces-later (p ∷ ps) (m ∷ ms) at.bits sc v u at.wide at.given in
      record {
        written = subst (SameChanges im s.written) (sym made.written) same.written;
        pending = moved-changes _ (then_changes u.pending (pieces_put (p ∷ ps) sc (T.current v u) at.bits)) _ made.pending
            (then-same im s.pending u.pending (S.changes_of to value (record a { now = put s.written now })) (pieces_put (p ∷ ps) sc (T.current v u) at.bits) same.pending at.changes);
        current = subst (λ (c : Changes). Agree im (put s.written now) (put c v)) (sym made.written) same.current;
        goes_on = same.goes_on;
      }
  assign-same false assigned now v s u same =
      let at = assigned (put s.written now) (T.current v u) same.current in
      let made = pieces-now p ps m ms at.bits sc v u at.wide at.given (at.steady refl) in
      let c = S.changes_of to value (record a { now = put s.written now }) in
      let d = pieces_put (p ∷ ps) sc (T.current v u) at.bits in
      record {
        written = moved-changes _ (then_changes u.written (pieces_put (p ∷ ps) sc (T.current v u) at.bits)) _ made.written
            (then-same im s.written u.written (S.changes_of to value (record a { now = put s.written now })) (pieces_put (p ∷ ps) sc (T.current v u) at.bits) same.written at.changes);
        pending = subst (SameChanges im s.pending) (sym made.pending) same.pending;
        current = moved-agree _ (put (then_changes u.written (pieces_put (p ∷ ps) sc (T.current v u) at.bits)) v) _ (λ q. ap (λ o. changed o (v q)) (made.written q))
            (then-agrees im s.written u.written (S.changes_of to value (record a { now = put s.written now })) (pieces_put (p ∷ ps) sc (T.current v u) at.bits) now v at.changes same.current);
        goes_on = same.goes_on;
      }
