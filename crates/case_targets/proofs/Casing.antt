-- The targets for one number of an index, and all of them.
use Rattle.std.proofs.Common.{◌≡◌, ◌⊎◌, inl, inr, ℕ, ◌≤◌, ℤ, pos, ◌+ℤ◌, ◌<ℤ◌, ◌≤ℤ◌, Bool, true, false, ◌||◌, List, [], ◌∷◌, ◌++◌, length, Option, Some, None, refl, sym, ap, ◌∙◌, subst, arith, true≢false}
use Rattle.std.proofs.lemmas.Int.{ints}
use Rattle.b4_core.specs.Vectors.{vec}
use Rattle.row_machine.specs.Valuation.{Valuation}
use Rattle.sv_types.specs.declared.expression.Expr.{Expr}
use Rattle.sv_types.specs.Layouts.{Layout, layout}
use Rattle.sv_types.specs.Surroundings.{Around}
use Rattle.sv_types.specs.Meanings as S
use Rattle.sv_types.specs.Paths as P
use Rattle.sv_types.specs.Expressions.{meaning}
use Rattle.sv_types.proofs.Heads.{heads}
use Rattle.sv_types.proofs.OperatorLengths.{length-vec}
use Rattle.v_meaning.specs.Scopes.{Scope, Named}
use Rattle.v_meaning.specs.Values as T
use Rattle.lowering_laws.specs.Placed.{holds}
use Rattle.lowering_laws.specs.Reached.{IsWritten}
use Rattle.path_flatten.specs.declared.offsets.Index.{Index}
use Rattle.path_flatten.specs.Sliding.{IsIndexOf}
use Rattle.target_flatten.specs.declared.writes.Write.{Write}
use Rattle.target_flatten.specs.Owning.{IsOwn, AllOwn}
use Rattle.target_flatten.specs.Writing.{pieces_in, in_vector}
use Rattle.target_walk.specs.declared.given.Given.{Given}
use Rattle.target_walk.specs.declared.given.Given.TheVariants as G
use Rattle.typed_paths.specs.Typed.{Indexing}
use Rattle.index_cases.specs.Cases.{matching, IsWrittenIf}
use Rattle.index_cases.proofs.Cases.{said-written}
use Rattle.index_cases.proofs.Matching.{matched, matches-own, bits-of-number}
use Rattle.filled_paths.specs.declared.numbers.Numbers.{Numbers}
use Rattle.filled_paths.specs.Filling.{put_index, IsBeyond}
use Rattle.filled_paths.specs.Numbers.{IsFilledBy, NamesFrom}
use Rattle.filled_paths.proofs.Filling.{lit-alone, lit-sign}
use Rattle.filled_paths.proofs.Emptying.{typed-tight, empty-picks}
use Rattle.guarded_writes.specs.Under.{PutsUnder, AllUnder}
use Rattle.guarded_writes.proofs.Under.{case-written}
use Rattle.case_targets.specs.declared.cases.Case.{Case}
use Rattle.case_targets.specs.declared.indices.PathIndex.{PathIndex}
use Rattle.case_targets.specs.declared.indices.PathIndex.TheVariants as I
use Rattle.case_targets.specs.Spreading.{all_of, Pairwise, HasWidth, IsShaped, StandsFor, Spreads, IsSet, number_in, HasCase, WritesMore, AddsCase, SpreadsBelow, KeepsOwn}
use Rattle.case_targets.proofs.Counting.{near}
use Rattle.case_targets.proofs.Standing.{done-more, IsAt, is-at, same-index}

some-int : (x y : ℤ) → Some x ≡ Some y → x ≡ y
some-int x y e = cc

none-some : (x : ℤ) → None ≡ Some x → ⊥
none-some x e = cc

-- a path of one type has one width
wide-like : (e f : Expr) → f.of ≡ e.of → S.wide (meaning f) ≡ S.wide (meaning e)
wide-like e f of = ap (λ (l : Layout). length l.two_state) ((heads f).kind ∙ ap layout of ∙ sym (heads e).kind)

-- the number in place of the index
module _ (e : Expr) (gs : List Given) (i : Index) (ps : List PathIndex) (k : ℤ) (c : Case) (is : HasCase e gs i k c) where
  long : length c.number ≡ i.width
  long = ap length is.number ∙ length-vec i.width k

  pub case-shaped : IsShaped e (all_of gs (I.InPart i ∷ ps)) → IsShaped c.path (all_of c.done ps)
  case-shaped h =
      let at = is-at HasWidth gs (I.InPart i) ps h.indices h.widths in
      let f = is.path h.number h.of h.indices h.part at.x h.path at.at (long ∙ at.one) in
      record {
        number = h.number;
        of = h.of;
        indices = put_index f.lit (length gs) h.indices;
        part = h.part;
        path = f.filled.path;
        widths = subst (Pairwise HasWidth (put_index f.lit (length gs) h.indices)) (done-more gs (G.Known (Some k)) ps ∙ ap (λ l. all_of l ps) (sym is.done)) (at.put f.lit (G.Known (Some k)) tt);
      }

  pub case-narrow : (n : ℕ) → (meaning e).widest ≤ n → IsShaped e (all_of gs (I.InPart i ∷ ps)) → (meaning c.path).widest ≤ n
  case-narrow n narrow h =
      let at = is-at HasWidth gs (I.InPart i) ps h.indices h.widths in
      let f = is.path h.number h.of h.indices h.part at.x h.path at.at (long ∙ at.one) in
      let less = f.filled.narrow in
      omega arith

  module _ (bits : ℕ) (vec : Named) (a : Around) (sc : Scope) (v : Valuation) (h : IsSet bits e (all_of gs (I.InPart i ∷ ps)) vec a sc v) where
    at : IsAt (StandsFor a sc v) gs (I.InPart i) ps h.indices
    at = is-at (StandsFor a sc v) gs (I.InPart i) ps h.indices h.stand

    of_index : IsIndexOf i (meaning at.x.index) a sc v
    of_index = at.one

    filled : IsFilledBy h.number h.of h.indices h.part (length gs) at.x c.number e c.path
    filled = is.path h.number h.of h.indices h.part at.x h.path at.at (long ∙ of_index.width)

    lit-number : P.index_of (meaning filled.lit) a ≡ Some k
    lit-number =
        (λ j. number_in (lit-sign at.x.index filled.lit c.number filled.literal j) (lit-alone at.x.index filled.lit c.number filled.literal (long ∙ of_index.width) a j))
        ∙ (λ j. number_in (of_index.sign j) c.number)
        ∙ is.has

    pub case-set : IsSet bits c.path (all_of c.done ps) vec a sc v
    case-set = record {
      number = h.number;
      of = h.of;
      indices = put_index filled.lit (length gs) h.indices;
      part = h.part;
      path = filled.filled.path;
      typed = filled.filled.typed h.typed;
      width = h.width;
      vector = h.vector;
      stand = subst (Pairwise (StandsFor a sc v) (put_index filled.lit (length gs) h.indices)) (done-more gs (G.Known (Some k)) ps ∙ ap (λ l. all_of l ps) (sym is.done))
          (at.put filled.lit (G.Known (Some k)) (sym lit-number, tt));
    }

    width-like : (T.meaning i.expr).width sc ≡ S.wide (meaning at.x.index)
    width-like =
        let least = of_index.same.least in
        let most = of_index.same.most in
        omega arith

    width-is : (T.meaning i.expr).width sc ≡ i.width
    width-is = width-like ∙ sym of_index.width

    alone-is : T.alone (T.meaning i.expr) sc v ≡ S.alone (meaning at.x.index) a
    alone-is = (λ j. (T.meaning i.expr).value (width-like j) (of_index.same.sign j) sc v) ∙ of_index.same.value

    same-window : holds (Some (matching (T.meaning i.expr) c.number)) sc v ≡ true → (meaning c.path).window a ≡ (meaning e).window a
    same-window held =
        let same = matched (T.meaning i.expr) (S.alone (meaning at.x.index) a) c.number i.width sc v width-is alone-is (of_index.long ∙ sym of_index.width) long held in
        filled.filled.window a ((λ j. number_in (of_index.sign j) (same j)) ∙ is.has ∙ sym lit-number)

    has-number : P.index_of (meaning at.x.index) a ≡ Some k → holds (Some (matching (T.meaning i.expr) c.number)) sc v ≡ true
    has-number held =
        let own = bits-of-number (S.signed (meaning at.x.index)) (S.alone (meaning at.x.index) a) i.width k (of_index.long ∙ sym of_index.width) held in
        matches-own (T.meaning i.expr) (S.alone (meaning at.x.index) a) c.number i.width sc v width-is alone-is (of_index.long ∙ sym of_index.width) (is.number ∙ own)

    or-left : (p q : Bool) → p ≡ true → (p || q) ≡ true
    or-left p q h = ap (λ b. b || q) h

    or-right : (p q : Bool) → q ≡ true → (p || q) ≡ true
    or-right true q h = refl
    or-right false q h = h

    adds : (x : Indexing) → at.x ≡ x → (one old new : List Write) → Spreads bits c.path (all_of c.done ps) one → PutsUnder (matching (T.meaning i.expr) c.number) one old new → (said : Bool)
        → IsWrittenIf said ((meaning e).window a) (S.wide (meaning e)) vec.number (pieces_in vec old) sc v → WritesMore said (P.index_of (meaning x.index) a) k e new vec a sc v
    adds x same one old new spreads puts said before =
        let m = matching (T.meaning i.expr) c.number in
        record {
          now = said || holds (Some m) sc v;
          kept = or-left said (holds (Some m) sc v);
          more = λ held. or-right said (holds (Some m) sc v) (has-number (ap (λ (y : Indexing). P.index_of (meaning y.index) a) same ∙ held));
          written = case-written said ((meaning e).window a) ((meaning c.path).window a) (S.wide (meaning e)) vec.number (in_vector vec) one old new m sc v before
              (subst (λ n. IsWritten ((meaning c.path).window a) n vec.number (pieces_in vec one) sc v) (wide-like e c.path filled.filled.of) (spreads vec a sc v case-set)) same-window puts;
        }

  pub case-adds : (bits : ℕ) (one old new : List Write) → Spreads bits c.path (all_of c.done ps) one → PutsUnder (matching (T.meaning i.expr) c.number) one old new → AddsCase bits e gs i ps k old new
  case-adds bits one old new spreads puts vec a sc v h x there said before =
      adds bits vec a sc v h x (same-index (length gs) h.indices _ x (at bits vec a sc v h).at there) one old new spreads puts said before

-- a number that the index never has
pub never-adds : (bits : ℕ) (e : Expr) (gs : List Given) (i : Index) (ps : List PathIndex) (k : ℤ) (xs : List Write) → (number_in i.signed (vec i.width k) ≡ Some k → ⊥) → AddsCase bits e gs i ps k xs xs
never-adds bits e gs i ps k xs never vec_ a sc v h x there said before =
    let f = is-at (StandsFor a sc v) gs (I.InPart i) ps h.indices h.stand in
    let g : IsIndexOf i (meaning f.x.index) a sc v = f.one in
    let same = same-index (length gs) h.indices f.x x f.at there in
    record {
      now = said;
      kept = λ held. held;
      more = λ held.
          let there_now = ap (λ (y : Indexing). P.index_of (meaning y.index) a) same ∙ held in
          let own = bits-of-number (S.signed (meaning f.x.index)) (S.alone (meaning f.x.index) a) i.width k (g.long ∙ sym g.width) there_now in
          absurd (never ((λ j. number_in (sym g.sign j) (own j)) ∙ there_now));
      written = before;
    }

-- the condition is put before each target
own-under : (name : List ℕ) (bits : ℕ) (m : T.Meaning) (xs ys : List Write) → AllUnder m xs ys → AllOwn name bits xs → AllOwn name bits ys
own-under name bits m [] [] h own = tt
own-under name bits m [] (y ∷ ys) h own = absurd h
own-under name bits m (x ∷ xs) [] h own = absurd h
own-under name bits m (x ∷ xs) (y ∷ ys) h own = (subst (IsOwn name bits) (sym h.0.to) own.0, own-under name bits m xs ys h.1 own.1)

own-append : (name : List ℕ) (bits : ℕ) (xs ys : List Write) → AllOwn name bits xs → AllOwn name bits ys → AllOwn name bits (xs ++ ys)
own-append name bits [] ys h g = g
own-append name bits (x ∷ xs) ys h g = (h.0, own-append name bits xs ys h.1 g)

pub own-more : (name : List ℕ) (bits : ℕ) (m : T.Meaning) (xs old new : List Write) → PutsUnder m xs old new → AllOwn name bits xs → KeepsOwn name bits old new
own-more name bits m xs old new puts own before = subst (AllOwn name bits) (sym puts.is) (own-append name bits old puts.made before (own-under name bits m xs puts.made puts.under own))

-- all numbers with which the index names anything
beyond : (low high : ℤ) (z : Option ℤ) → ((j : ℤ) → low ≤ℤ j → j <ℤ (high +ℤ pos 1) → z ≡ Some j → ⊥) → IsBeyond low high z
beyond low high None never = tt
beyond low high (Some k) never = by (near low k) (near k high)
  where
    by : (low ≤ℤ k) ⊎ (k <ℤ low) → (k ≤ℤ high) ⊎ (high <ℤ k) → IsBeyond low high (Some k)
    by (inr less) h = inl less
    by (inl above) (inr more) = inr more
    by (inl above) (inl below) = absurd (never k above (omega (arith, ints, below)) refl)

pub all-cases : (bits : ℕ) (e : Expr) (gs : List Given) (i : Index) (ps : List PathIndex) (r : Numbers) (k : ℤ) (xs : List Write) → NamesFrom e (length gs) r → (r.high +ℤ pos 1) ≤ℤ k
    → SpreadsBelow bits e gs i ps r.low k xs → Spreads bits e (all_of gs (I.InPart i ∷ ps)) xs
all-cases bits e gs i ps r k xs names end below vec a sc v h =
    let f = is-at (StandsFor a sc v) gs (I.InPart i) ps h.indices h.stand in
    let b = below vec a sc v h f.x f.at in
    said-written b.said ((meaning e).window a) (S.wide (meaning e)) vec.number (pieces_in vec xs) sc v (typed-tight h.number h.of e h.indices h.part a h.path h.typed)
    (λ never j less. empty-picks ((meaning e).window a)
    (names h.number h.of h.indices h.part f.x h.path h.typed f.at a
    (beyond r.low r.high (P.index_of (meaning f.x.index) a) (λ n above under there. true≢false (sym (b.told n above (omega (arith, ints, under, end)) there) ∙ never)))) j)
    b.written
