-- Targets in the image of what a path stands on stand for the path.
use Rattle.std.proofs.Common.{◌≡◌, ℕ, Bool, true, false, List, [], ◌∷◌, Some, refl, arith, ap, sym, ◌∙◌, subst}
use Rattle.b4_core.specs.declared.bit.Bit4.TheVariants.{Zero}
use Rattle.row_machine.specs.Valuation.{Valuation}
use Rattle.sv_types.specs.declared.expression.Expr.{Expr}
use Rattle.sv_types.specs.declared.statement.Function.{Function}
use Rattle.sv_types.specs.Layouts.{layout, stored_bit}
use Rattle.sv_types.specs.Surroundings.{Around}
use Rattle.sv_types.specs.Meanings as S
use Rattle.sv_types.specs.Expressions.{meaning}
use Rattle.v_tree.specs.Names.{Name}
use Rattle.v_tree.specs.declared.names.Helper.{Helper}
use Rattle.v_tree.specs.declared.names.NameMap.{NameMap}
use Rattle.v_meaning.specs.Scopes.{Scope, named}
use Rattle.lowering_laws.specs.Agreeing.{Images, AreDistinct, Agree}
use Rattle.lowering_laws.specs.Reached.{IsWritten}
use Rattle.path_flatten.specs.Helping.{EachHelps}
use Rattle.typed_paths.specs.Typed.{IsTyped}
use Rattle.typed_paths.proofs.Converting.{converted, holds-bits}
use Rattle.typed_paths.proofs.Opening.{stands-on}
use Rattle.path_steps.proofs.PathNames.{images-like}
use Rattle.target_flatten.specs.declared.writes.Image.{Image}
use Rattle.target_flatten.specs.Owning.{AllWrite}
use Rattle.target_flatten.specs.Writing.{pieces}
use Rattle.target_flatten.proofs.Owning.{all-write, written-by-name}
use Rattle.target_walk.specs.Giving.{all_names}
use Rattle.target_walk.specs.declared.never.Targets.{Targets}
use Rattle.target_walk.specs.Naming.{target_names}
use Rattle.target_walk.specs.Changing.{IsShownBy}
use Rattle.case_targets.specs.declared.indices.PathIndex.{PathIndex}
use Rattle.case_targets.specs.Naming.{givens_for, Spread}
use Rattle.case_targets.specs.Spreading.{IsSet}
use Rattle.case_targets.proofs.Changing.{typed-changes}
use Rattle.expr_lower.specs.Leaves.{leaves, Each}
use Rattle.expr_lower.specs.Lowering.{IsShown, LeafStands}
use Rattle.target_lower.specs.declared.within.Within.{Within}
use Rattle.target_lower.specs.declared.within.Within.TheVariants.{Process, Routine}
use Rattle.target_lower.specs.Made.{CallsFrom, AreMade, PutsIndices}
use Rattle.target_lower.specs.Roots.{index_leaves, StandsOn, IsInImage}
use Rattle.target_lower.specs.Targets.{StandsAsTarget, IsInVector, StandsOnVector, LowersTarget, BareIf, HasShape}
use Rattle.target_lower.proofs.Following.{indices-named}
use Rattle.target_lower.proofs.Making.{made-stand, made-named, made-fixed}
use Rattle.target_lower.proofs.Stepping.{root-shown}

-- a valuation that always agrees
abbrev zeros : Valuation
zeros q = Zero

zero-stored : (b : Bool) → stored_bit b Zero ≡ Zero
zero-stored true = refl
zero-stored false = refl

some-same : (x y : ℕ) → Some x ≡ Some y → x ≡ y
some-same x y e = cc

module _ (within : Within) (names : NameMap) (fs : List Function) (hs : List Helper) (e : Expr) (ps : List PathIndex) (x : Targets) (h : IsInImage names e ps x) (typed : IsTyped e) (fits : (meaning e).misfits ≡ 0)
    (made : AreMade within names fs hs typed.indices ps)
    (im : Images) (a : Around) (sc : Scope) (calls : CallsFrom within fs a.callee) (distinct : AreDistinct im) (in_vector : StandsOnVector names (leaves e)) (all : Each (LeafStands names fs im a sc) (leaves e)) (helps : EachHelps hs sc) where
  abbrev name : Name
  name = h.name

  on : StandsOn h.root e typed.number typed.of typed.indices
  on = h.root_is typed.number typed.of typed.indices typed.part typed.path

  leaves-stand : Each (LeafStands names fs im a sc) (on.leaf ∷ index_leaves typed.indices)
  leaves-stand = subst (Each (LeafStands names fs im a sc)) on.all all

  vector-leaf : IsInVector names on.leaf
  vector-leaf = subst (StandsOnVector names) on.all in_vector

  stands : (meaning e).root ≡ Some typed.number
  stands = stands-on typed.number typed.of e typed.indices typed.part typed.path

  shown : IsShown name im sc typed.number (layout typed.of)
  shown =
      let stood = root-shown names fs im a sc h.root.held typed.number (layout typed.of) on.leaf on.held on.is_leaf vector-leaf leaves-stand.0 in
      subst (λ n. IsShown n im sc typed.number (layout typed.of)) (sym (h.name_is stood.0)) stood.1

  zeros-agree : Agree im zeros zeros
  zeros-agree = record { same = λ n b less. refl; stored = λ n b less. zero-stored (im.two_state n b) }

  set : (now v : Valuation) → Agree im now v → IsSet h.root.bits e ps (named sc.names name) (record a { now = now }) sc v
  set now v agree = record {
    number = typed.number;
    of = typed.of;
    indices = typed.indices;
    part = typed.part;
    path = typed.path;
    typed = fits;
    width = sym on.bits;
    vector = record { vector = shown.vector; width = shown.width ∙ sym on.bits };
    stand = made-stand within names fs hs im a sc helps typed.number typed.of e typed.indices typed.part ps typed.path fits leaves-stand.1 made calls now v agree;
  }

  spread : (now v : Valuation) → Agree im now v → Spread e ps x (named sc.names name) (record a { now = now }) sc v
  spread now v agree = h.spreads (named sc.names name) (record a { now = now }) sc v (set now v agree)

  -- by the name
  written : (now v : Valuation) → Agree im now v → IsWritten ((meaning e).window (record a { now = now })) (S.wide (meaning e)) (named sc.names name).number (pieces x.writes) sc v
  written now v agree = written-by-name name h.root.bits sc ((meaning e).window (record a { now = now })) (S.wide (meaning e)) x.writes v h.own (spread now v agree).path

  abbrev image : Image
  image = record { name = name; bits = h.root.bits; room = 0 }

  shown-by : (now v : Valuation) → IsShownBy image im typed.number e (record a { now = now }) sc
  shown-by now v = record {
    distinct = distinct;
    root = stands;
    some = (let w = shown.image in let o = holds-bits typed.number typed.of e typed.indices typed.part typed.path fits in omega arith);
    number = sym shown.number;
    in_order = shown.in_order;
    converted = converted (im.two_state typed.number) typed.number typed.of e typed.indices typed.part (record a { now = now }) typed.path fits shown.marks;
  }

  pub stands-as-target : StandsAsTarget im a sc (meaning e) x
  stands-as-target = record {
    writes = λ r now v root agree.
        (let it : typed.number ≡ r = some-same typed.number r (sym stands ∙ root) in
        subst (λ n. IsWritten ((meaning e).window (record a { now = now })) (S.wide (meaning e)) n (pieces x.writes) sc v) (shown.number ∙ ap im.number it) (written now v agree));
    changes = λ now v agree.
        typed-changes image im typed.number typed.number typed.of e typed.indices typed.part (record a { now = now }) sc v (pieces x.writes) typed.path fits (shown-by now v) (written now v agree);
    names = images-like im.number (meaning e).index_names (all_names (givens_for ps) sc) (target_names x sc)
        (indices-named im.number sc typed.number typed.of e typed.indices typed.part ps typed.path
        (made-named within names fs hs im a sc helps typed.number typed.of e typed.indices typed.part ps typed.path fits leaves-stand.1 made))
        (spread zeros zeros zeros-agree).names;
    own = λ r root.
        (let it : typed.number ≡ r = some-same typed.number r (sym stands ∙ root) in
        subst (λ n. AllWrite n (pieces x.writes) sc) (shown.number ∙ ap im.number it) (all-write name h.root.bits x.writes sc h.own));
  }

-- and so do those for the indices that are put together for it
pub lowers-target : (within : Within) (names : NameMap) (fs : List Function) (hs : List Helper) (e : Expr) (ps : List PathIndex) (x : Targets) → IsInImage names e ps x → IsTyped e → (meaning e).misfits ≡ 0
    → PutsIndices within names fs hs e [] ps → LowersTarget within names fs hs e x
lowers-target within names fs hs e ps x h typed fits puts im a sc calls distinct in_vector all helps =
    stands-as-target within names fs hs e ps x h typed fits (subst (AreMade within names fs hs typed.indices) (sym puts.is) (puts.made typed.number typed.of typed.indices typed.part typed.path)) im a sc calls distinct in_vector all helps

-- they have their shape
bare-if : (within : Within) (names : NameMap) (fs : List Function) (hs : List Helper) (e : Expr) (ps : List PathIndex) (x : Targets) (h : IsInImage names e ps x) → PutsIndices within names fs hs e [] ps
    → BareIf within fs e h.name x
bare-if Process names fs hs e ps x h puts =
    λ number t xs part path constant. h.bare (made-fixed names fs hs xs ps (subst (AreMade Process names fs hs xs) (sym puts.is) (puts.made number t xs part path)) constant)
bare-if Routine names fs hs e ps x h puts = tt

pub has-shape : (within : Within) (names : NameMap) (fs : List Function) (hs : List Helper) (e : Expr) (ps : List PathIndex) (x : Targets) → IsInImage names e ps x → PutsIndices within names fs hs e [] ps
    → HasShape within names fs hs e x
has-shape within names fs hs e ps x h puts =
    record { root = h.root; root_is = h.root_is; name = h.name; name_is = h.name_is; own = h.own; indices = ps; puts = puts; bare = h.bare; constant = bare-if within names fs hs e ps x h puts }
