-- Names with selects tell what the rules tell, where the selects do.
use Rattle.std.proofs.Common.{◌≡◌, ℕ, suc, ◌+◌, ◌-◌, Bool, true, false, not, ◌&&◌, List, [], ◌∷◌, ◌++◌, length, slice_get, Option, Some, None, refl, sym, ap, ◌∙◌, subst, nat_lt, is_some, append_assoc, arith}
use Rattle.std.proofs.lemmas.Bool.{lt-ltb}
use Rattle.std.proofs.lemmas.List.{append-nil}
use Rattle.v_tree.specs.Names.{Name}
use Rattle.v_tree.specs.Scopes.{memory, part_bits, selected_bits, word_bits, named_bits, bits_of, has_range}
use Rattle.v_tree.specs.ExprRules as X
use Rattle.v_tree.specs.ExprRules.{Around, Rules, SelRules, only_if, sels_size, sels_broken, moving, selected_of, has_index, more_than, sels_on, name_broken, is_index, decimal_extent, moving_extent, extent_size, sel_rules, prim_rules}
use Rattle.v_tree.specs.declared.expressions.VExtent.{VExtent}
use Rattle.v_tree.specs.declared.expressions.VExtent.TheVariants.{Down, Up}
use Rattle.v_tree.specs.declared.expressions.VPrim.{VPrim-F}
use Rattle.v_tree.specs.declared.expressions.VSel.{VSel-F}
use Rattle.v_tree.specs.declared.items.VItem.{VItem}
use Rattle.v_scopes.specs.Env.{Env}
use Rattle.v_scopes.specs.declared.entry.Entry.{Entry}
use Rattle.v_scopes.specs.declared.entry.Entry.TheVariants as N
use Rattle.v_scopes.specs.declared.entry.Kind.TheVariants as K
use Rattle.v_expr_rules.specs.declared.seen.Seen.{Seen}
use Rattle.v_expr_rules.specs.declared.sels.SelSeen.{SelSeen}
use Rattle.v_expr_rules.specs.declared.sels.SelsSeen.{SelsSeen}
use Rattle.v_expr_rules.specs.Seen as S
use Rattle.v_expr_rules.specs.Seen.{plus, earlier, mark, bits_capped, in_context, is_wide, extent_tokens, decimal_sel, decimal_bits, decimal_mark, moving_sel, moving_bits, moving_mark, no_sels, sel_added, first_sel, second_sel, behind_first, sels_mark, is_indexed, memory_mark, name_mark, selected, name_bits, is_net, name_seen}
use Rattle.v_expr_rules.specs.Least.{cap, first}
use Rattle.v_expr_rules.specs.Walks.{SelWalk, sels_from}
use Rattle.v_expr_rules.specs.Things.{thing_in, around}
use Rattle.v_expr_rules.specs.Exact.{Fits}
use Rattle.v_expr_rules.proofs.Saturation.{first-append, first-if, first-one}
use Rattle.v_expr_rules.proofs.Operands.{sum-of, alone-of, one-more, next-token}
use Rattle.v_expr_rules.proofs.Listed.{Each}
use Rattle.v_expr_rules.proofs.Listed.Each.{none, more}

-- what is kept of a select tells the same wherever it stands
pub record Same (s : SelSeen) (r : SelRules) : Type 0 where
  pub size : s.size ≡ cap r.size
  pub bits : s.bits ≡ bits_capped (part_bits r.selected)
  pub index : s.is_index ≡ is_index r.selected

pub record SelFits (s : SelSeen) (r : SelRules) (a : Around) (at : ℕ) : Type 0 where
  pub same : Same s r
  pub broken : s.first ≡ first (r.broken a at)
  pub moves : moving (r ∷ []) at ≡ only_if (not s.is_decimal) (suc at)

abbrev pub SelExact : SelWalk → SelRules → Type 0
SelExact w r = (env : Env) (items : List VItem) (at : ℕ) → SelFits (w env items (cap at)) r (around env items) at

extent-of : (e : Option VExtent) → extent_tokens e ≡ extent_size e
extent-of None = refl
extent-of (Some e) = refl

index-of : (b : Option ℕ) (e : Option VExtent) → S.is_none e ≡ is_index (record { base = b; extent = e })
index-of b None = refl
index-of b (Some e) = refl

decimal-bits : (base : ℕ) (e : Option VExtent) → decimal_bits base e ≡ part_bits (record { base = Some base; extent = e })
decimal-bits base None = refl
decimal-bits base (Some (Down right)) = refl
decimal-bits base (Some (Up width)) = refl

moving-bits : (e : Option VExtent) → moving_bits e ≡ part_bits (record { base = None; extent = e })
moving-bits None = refl
moving-bits (Some (Down right)) = refl
moving-bits (Some (Up width)) = refl

decimal-marks : (base : ℕ) (e : Option VExtent) (at : ℕ) → decimal_mark base e (cap at) ≡ first (decimal_extent base e at)
decimal-marks base None at = refl
decimal-marks base (Some (Down right)) at = sym (first-if (nat_lt base right) at)
decimal-marks base (Some (Up width)) at = refl

moving-marks : (e : Option VExtent) (at : ℕ) → moving_mark e (cap at) ≡ first (moving_extent e at)
moving-marks None at = refl
moving-marks (Some (Down right)) at = sym (first-one at)
moving-marks (Some (Up width)) at = refl

three-more : (e : Option VExtent) → 3 + extent_tokens e ≡ cap (3 + extent_size e)
three-more None = refl
three-more (Some e) = refl

two-more : (e : Option VExtent) → 2 + extent_tokens e ≡ cap (2 + extent_size e)
two-more None = refl
two-more (Some e) = refl

pub decimal-fits : (base : ℕ) (e : Option VExtent) (a : Around) (at : ℕ) → SelFits (decimal_sel base e (cap at)) (sel_rules (VSel-F.Decimal base e)) a at
decimal-fits base e a at = record {
  same = record { size = three-more e; bits = ap bits_capped (decimal-bits base e); index = index-of (Some base) e };
  broken = ap (decimal_mark base e) (next-token at) ∙ decimal-marks base e (suc at);
  moves = refl;
}

pub moving-fits : (s : Seen) (r : Rules) (e : Option VExtent) (a : Around) (at : ℕ) → Fits s r a (suc at) → SelFits (moving_sel s e (cap at)) (sel_rules (VSel-F.Expr r e)) a at
moving-fits s r e a at f = record {
  same = record {
    size = sum-of (2 + extent_tokens e) s.size (2 + extent_size e) r.size (two-more e) f.size ∙ ap cap (omega arith);
    bits = ap bits_capped (moving-bits e);
    index = index-of None e;
  };
  broken =
      (λ i. earlier ((ap (moving_mark e) (next-token at) ∙ moving-marks e (suc at)) i) (alone-of s r a (suc at) f i))
      ∙ sym (first-append (moving_extent e (suc at)) (X.alone r a (suc at)));
  moves = refl;
}

-- the first two selects
abbrev SameIf : Option SelSeen → Option SelRules → Type 0
SameIf None None = Unit {0}
SameIf (Some s) (Some r) = Same s r
SameIf None (Some r) = ⊥
SameIf (Some s) None = ⊥

pub record SelsFits (ss : SelsSeen) (rs : List SelRules) (a : Around) (at : ℕ) : Type 0 where
  pub size : ss.size ≡ cap (sels_size rs)
  pub broken : ss.first ≡ first (sels_broken rs a at)
  pub moves : ss.moving ≡ first (moving rs at)
  pub outer : SameIf ss.outer (slice_get rs 0)
  pub inner : SameIf ss.inner (slice_get rs 1)

size-push : (rs : List SelRules) (r : SelRules) → sels_size (rs ++ (r ∷ [])) ≡ sels_size rs + r.size
size-push [] r = omega arith
size-push (q ∷ rs) r = let h = size-push rs r in omega (arith, h)

here : (at : ℕ) → at ≡ at + 0
here at = omega arith

behind : (at size further : ℕ) → (at + size) + further ≡ at + (size + further)
behind at size further = omega arith

broken-push : (rs : List SelRules) (r : SelRules) (a : Around) (at : ℕ) → sels_broken (rs ++ (r ∷ [])) a at ≡ sels_broken rs a at ++ r.broken a (at + sels_size rs)
broken-push [] r a at = append-nil (r.broken a at) ∙ ap (r.broken a) (here at)
broken-push (q ∷ rs) r a at =
    ap (λ (ts : List ℕ). q.broken a at ++ ts) (broken-push rs r a (at + q.size) ∙ ap (λ n. sels_broken rs a (at + q.size) ++ r.broken a n) (behind at q.size (sels_size rs)))
    ∙ sym (append_assoc (q.broken a at) (sels_broken rs a (at + q.size)) (r.broken a (at + sels_size (q ∷ rs))))

moving-one : (q : SelRules) (rs : List SelRules) (at : ℕ) → moving (q ∷ rs) at ≡ moving (q ∷ []) at ++ moving rs (at + q.size)
moving-one q rs at = ap (λ (ts : List ℕ). ts ++ moving rs (at + q.size)) (sym (append-nil _))

moving-push : (rs : List SelRules) (r : SelRules) (at : ℕ) → moving (rs ++ (r ∷ [])) at ≡ moving rs at ++ moving (r ∷ []) (at + sels_size rs)
moving-push [] r at = ap (moving (r ∷ [])) (here at)
moving-push (q ∷ rs) r at =
    moving-one q (rs ++ (r ∷ [])) at
    ∙ ap (λ (ts : List ℕ). moving (q ∷ []) at ++ ts) (moving-push rs r (at + q.size) ∙ ap (λ n. moving rs (at + q.size) ++ moving (r ∷ []) n) (behind at q.size (sels_size rs)))
    ∙ sym (append_assoc (moving (q ∷ []) at) (moving rs (at + q.size)) (moving (r ∷ []) (at + sels_size (q ∷ rs))))
    ∙ ap (λ (ts : List ℕ). ts ++ moving (r ∷ []) (at + sels_size (q ∷ rs))) (sym (moving-one q rs at))

outer-push : (o : Option SelSeen) (rs : List SelRules) (s : SelSeen) (r : SelRules) → SameIf o (slice_get rs 0) → Same s r → SameIf (first_sel o s) (slice_get (rs ++ (r ∷ [])) 0)
outer-push None [] s r h same = same
outer-push None (q ∷ rs) s r h same = absurd h
outer-push (Some x) [] s r h same = absurd h
outer-push (Some x) (q ∷ rs) s r h same = h

inner-push : (o i : Option SelSeen) (rs : List SelRules) (s : SelSeen) (r : SelRules) → SameIf o (slice_get rs 0) → SameIf i (slice_get rs 1) → Same s r
    → SameIf (second_sel o i s) (slice_get (rs ++ (r ∷ [])) 1)
inner-push None i [] s r h k same = tt
inner-push None i (q ∷ rs) s r h k same = absurd h
inner-push (Some x) i [] s r h k same = absurd h
inner-push (Some x) i (q ∷ rs) s r h k same = outer-push i rs s r k same

pub no-sels : (a : Around) (at : ℕ) → SelsFits no_sels [] a at
no-sels a at = record { size = refl; broken = refl; moves = refl; outer = tt; inner = tt }

one-sel : (ss : SelsSeen) (rs : List SelRules) (s : SelSeen) (r : SelRules) (a : Around) (at from : ℕ) → from ≡ cap (at + sels_size rs) → SelsFits ss rs a at
    → SelFits s r a (at + sels_size rs) → SelsFits (sel_added ss from s) (rs ++ (r ∷ [])) a at
one-sel ss rs s r a at from from_is k f = record {
  size = sum-of ss.size s.size (sels_size rs) r.size k.size f.same.size ∙ ap cap (sym (size-push rs r));
  broken =
      (λ i. earlier (k.broken i) (f.broken i))
      ∙ sym (first-append (sels_broken rs a at) (r.broken a (at + sels_size rs)))
      ∙ ap first (sym (broken-push rs r a at));
  moves =
      (λ i. earlier (k.moves i) (mark (not s.is_decimal) ((ap (λ n. plus n 1) from_is ∙ next-token (at + sels_size rs)) i)))
      ∙ ap (earlier (first (moving rs at))) (sym (first-if (not s.is_decimal) (suc (at + sels_size rs))) ∙ ap first (sym f.moves))
      ∙ sym (first-append (moving rs at) (moving (r ∷ []) (at + sels_size rs)))
      ∙ ap first (sym (moving-push rs r at));
  outer = outer-push ss.outer rs s r k.outer f.same;
  inner = inner-push ss.outer ss.inner rs s r k.outer k.inner f.same;
}

from-sels : (ws : List SelWalk) (qs : List SelRules) (env : Env) (items : List VItem) (at : ℕ) (ss : SelsSeen) (rs : List SelRules) → Each SelExact ws qs
    → SelsFits ss rs (around env items) at → SelsFits (sels_from ws env items (cap at) ss) (rs ++ qs) (around env items) at
from-sels _ _ env items at ss rs none k = subst (λ (ps : List SelRules). SelsFits ss ps (around env items) at) (sym (append-nil rs)) k
from-sels _ _ env items at ss rs (more {x = w} {y = q} {xs = ws} {ys = qs} e es) k =
    let start : plus (cap at) ss.size ≡ cap (at + sels_size rs) = sum-of (cap at) ss.size at (sels_size rs) refl k.size in
    let f = subst (λ n. SelFits (w env items n) q (around env items) (at + sels_size rs)) (sym start) (e env items (at + sels_size rs)) in
    let one = one-sel ss rs (w env items (plus (cap at) ss.size)) q (around env items) at (plus (cap at) ss.size) start k f in
    subst (λ (ps : List SelRules). SelsFits (sels_from ws env items (cap at) (sel_added ss (plus (cap at) ss.size) (w env items (plus (cap at) ss.size)))) ps (around env items) at)
    (append_assoc rs (q ∷ []) qs)
    (from-sels ws qs env items at (sel_added ss (plus (cap at) ss.size) (w env items (plus (cap at) ss.size))) (rs ++ (q ∷ [])) es one)

pub sels-fit : (ws : List SelWalk) (qs : List SelRules) (env : Env) (items : List VItem) (at : ℕ) → Each SelExact ws qs
    → SelsFits (sels_from ws env items (cap at) no_sels) qs (around env items) at
sels-fit ws qs env items at es = from-sels ws qs env items at no_sels [] es (no-sels (around env items) at)

-- the marks of a name
some-first : (o : Option SelSeen) (rs : List SelRules) → SameIf o (slice_get rs 0) → more_than 0 rs ≡ is_some o
some-first None [] h = refl
some-first None (r ∷ rs) h = absurd h
some-first (Some s) [] h = absurd h
some-first (Some s) (r ∷ rs) h = lt-ltb 0 (suc (length rs)) (omega arith)

some-second : (i : Option SelSeen) (rs : List SelRules) → SameIf i (slice_get rs 1) → more_than 1 rs ≡ is_some i
some-second None [] h = refl
some-second None (r ∷ []) h = refl
some-second None (r ∷ q ∷ rs) h = absurd h
some-second (Some s) [] h = absurd h
some-second (Some s) (r ∷ []) h = absurd h
some-second (Some s) (r ∷ q ∷ rs) h = lt-ltb 1 (suc (suc (length rs))) (omega arith)

second-at : (o : Option SelSeen) (rs : List SelRules) (at : ℕ) → SameIf o (slice_get rs 0) → behind_first o (cap at) ≡ cap (X.second_sel rs at)
second-at None [] at h = refl
second-at None (r ∷ rs) at h = absurd h
second-at (Some s) [] at h = absurd h
second-at (Some s) (r ∷ rs) at h = sum-of (cap at) s.size at r.size refl h.size

first-index : (o : Option SelSeen) (rs : List SelRules) → SameIf o (slice_get rs 0) → is_indexed o ≡ has_index (selected_of rs)
first-index None [] h = refl
first-index None (r ∷ rs) h = absurd h
first-index (Some s) [] h = absurd h
first-index (Some s) (r ∷ rs) h = h.index

sels-marks : (ranged : Bool) (ss : SelsSeen) (rs : List SelRules) (a : Around) (from at : ℕ) → SelsFits ss rs a from → sels_mark ranged ss (cap at) ≡ first (sels_on ranged rs at)
sels-marks ranged ss rs a from at k =
    (λ i. earlier (mark (sym (some-first ss.outer rs k.outer) i && not ranged) (cap at)) (mark (sym (some-second ss.inner rs k.inner) i) (second-at ss.outer rs at k.outer i)))
    ∙ (λ i. earlier (sym (first-if (more_than 0 rs && not ranged) at) i) (sym (first-if (more_than 1 rs) (X.second_sel rs at)) i))
    ∙ sym (first-append (only_if (more_than 0 rs && not ranged) at) (only_if (more_than 1 rs) (X.second_sel rs at)))

memory-marks : (ranged : Bool) (width : ℕ) (ss : SelsSeen) (rs : List SelRules) (a : Around) (from at : ℕ) → SelsFits ss rs a from
    → memory_mark ranged ss (cap at) ≡ first (name_broken (Some (memory width ranged)) rs at)
memory-marks ranged width ss rs a from at k =
    (λ i. earlier (mark (not (first-index ss.outer rs k.outer i)) (cap at)) (mark (sym (some-second ss.inner rs k.inner) i && not ranged) (behind_first ss.outer (next-token at i))))
    ∙ (λ i. earlier (sym (first-if (not (has_index (selected_of rs))) at) i) (mark (more_than 1 rs && not ranged) (second-at ss.outer rs (suc at) k.outer i)))
    ∙ ap (earlier (first (only_if (not (has_index (selected_of rs))) at))) (sym (first-if (more_than 1 rs && not ranged) (X.second_sel rs (suc at))))
    ∙ sym (first-append (only_if (not (has_index (selected_of rs))) at) (only_if (more_than 1 rs && not ranged) (X.second_sel rs (suc at))))

pub name-marks : (items : List VItem) (entry : Option Entry) (ss : SelsSeen) (rs : List SelRules) (a : Around) (from at : ℕ) → SelsFits ss rs a from
    → name_mark entry ss (cap at) ≡ first (name_broken (thing_in items entry) rs at)
name-marks items None ss rs a from at k = sym (first-one at)
name-marks items (Some (N.Value kind left)) ss rs a from at k = ap (sels_mark (has_range left) ss) (next-token at) ∙ sels-marks (has_range left) ss rs a from (suc at) k
name-marks items (Some (N.Memory left)) ss rs a from at k = memory-marks (has_range left) (bits_of left) ss rs a from at k
name-marks items (Some (N.Function left item)) ss rs a from at k = sym (first-one at)
name-marks items (Some (N.Result left item)) ss rs a from at k = ap (sels_mark (has_range left) ss) (next-token at) ∙ sels-marks (has_range left) ss rs a from (suc at) k
name-marks items (Some N.Part) ss rs a from at k = sym (first-one at)

-- the width of a name
outer-bits : (width : ℕ) (o : Option SelSeen) (rs : List SelRules) → SameIf o (slice_get rs 0) → selected (bits_capped width) o ≡ bits_capped (selected_bits width (selected_of rs))
outer-bits width None [] h = refl
outer-bits width None (r ∷ rs) h = absurd h
outer-bits width (Some s) [] h = absurd h
outer-bits width (Some s) (r ∷ rs) h = h.bits

inner-bits : (width : ℕ) (i : Option SelSeen) (rs : List SelRules) → SameIf i (slice_get rs 1) → selected (bits_capped width) i ≡ bits_capped (word_bits width (selected_of rs))
inner-bits width None [] h = refl
inner-bits width (Some s) [] h = absurd h
inner-bits width i (r ∷ rs) h = outer-bits width i rs h

no-bits : 0 ≡ bits_capped 0
unfolding bits_capped
no-bits = refl

pub name-widths : (items : List VItem) (entry : Option Entry) (ss : SelsSeen) (rs : List SelRules) (a : Around) (from : ℕ) → SelsFits ss rs a from
    → name_bits entry ss ≡ bits_capped (named_bits (thing_in items entry) (selected_of rs))
name-widths items None ss rs a from k = no-bits
name-widths items (Some (N.Value kind left)) ss rs a from k = outer-bits (bits_of left) ss.outer rs k.outer
name-widths items (Some (N.Memory left)) ss rs a from k = inner-bits (bits_of left) ss.inner rs k.inner
name-widths items (Some (N.Function left item)) ss rs a from k = no-bits
name-widths items (Some (N.Result left item)) ss rs a from k = outer-bits (bits_of left) ss.outer rs k.outer
name-widths items (Some N.Part) ss rs a from k = no-bits

pub nets : (items : List VItem) (entry : Option Entry) → is_net entry ≡ X.is_net (thing_in items entry)
nets items None = refl
nets items (Some (N.Value K.Input left)) = refl
nets items (Some (N.Value K.Net left)) = refl
nets items (Some (N.Value K.Variable left)) = refl
nets items (Some (N.Value K.Local left)) = refl
nets items (Some (N.Memory left)) = refl
nets items (Some (N.Function left item)) = refl
nets items (Some (N.Result left item)) = refl
nets items (Some N.Part) = refl

pub name-fits : (env : Env) (items : List VItem) (name : Name) (ss : SelsSeen) (rs : List SelRules) (at : ℕ) → SelsFits ss rs (around env items) (suc at)
    → Fits (name_seen (env name) ss (cap at)) (prim_rules (VPrim-F.Name name rs)) (around env items) at
name-fits env items name ss rs at k = record {
  size = one-more ss.size (sels_size rs) k.size;
  width = name-widths items (env name) ss rs (around env items) (suc at) k;
  broken = λ w. in_both (name_seen (env name) ss (cap at)) (is_wide w) refl ∙ firsts;
  target = refl;
  driven =
      (λ i. earlier (mark (not (nets items (env name) i)) (cap at)) (k.moves i))
      ∙ ap (λ x. earlier x (first (moving rs (suc at)))) (sym (first-if (not (X.is_net (thing_in items (env name)))) at))
      ∙ sym (first-append (only_if (not (X.is_net (thing_in items (env name)))) at) (moving rs (suc at)));
}
  where
    in_both : (s : Seen) (w : Bool) → s.narrow ≡ s.wide → in_context s w ≡ s.wide
    in_both s true e = refl
    in_both s false e = e

    firsts : earlier (name_mark (env name) ss (cap at)) ss.first ≡ first (name_broken (thing_in items (env name)) rs at ++ sels_broken rs (around env items) (suc at))
    firsts =
        (λ i. earlier (name-marks items (env name) ss rs (around env items) (suc at) at k i) (k.broken i))
        ∙ sym (first-append (name_broken (thing_in items (env name)) rs at) (sels_broken rs (around env items) (suc at)))
