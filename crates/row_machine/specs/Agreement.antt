-- Agreement of two machines, a source and a target: the target's valuation is a function of the source's.
use Rattle.std.specs.Prelude.{◌≡◌, ◌⊎◌, Bool, true, false, List, map, Option, Some, None}
use Rattle.b4_core.specs.declared.bit.Bit4.{Bit4}
use Rattle.b4_core.specs.declared.bit.Bit4.TheVariants.{Zero, One, X, Z}
use Rattle.row_machine.specs.Valuation.{Place, Valuation, Changes, Member, has, NoneWrites}
use Rattle.row_machine.specs.Machine.{Process, EdgeProcess, Machine}
use Rattle.row_machine.specs.Settle.{differs}
use Rattle.row_machine.specs.Trace.{HasTrace}

-- how a source valuation shows in the target
pub record Map : Type 0 where
  -- the source bit whose image a target bit is, if it is one
  pub origin : Place → Option Place
  -- what any other target bit holds
  pub extra : Valuation → Place → Bit4
  -- whether a source bit is of a two-state type (IEEE 1800-2017 clause 6.11.2)
  pub two_state : Place → Bool

-- the bit of the source, if there is one
abbrev pub image_or : Option Place → Valuation → Bit4 → Bit4
image_or (Some q) v b = v q
image_or None v b = b

-- the target's valuation for a source valuation
abbrev pub lifted : Map → Valuation → Valuation
lifted m v q = image_or (m.origin q) v (m.extra v q)

-- 0 or 1
abbrev pub is_known : Bit4 → Bool
is_known Zero = true
is_known One = true
is_known X = false
is_known Z = false

-- a bit of a two-state type holds 0 or 1
abbrev pub Fits : Map → Place → Bit4 → Type 0
Fits m q b = m.two_state q ≡ true → is_known b ≡ true

-- each bit holds a value of its type
abbrev pub Typed : Map → Valuation → Type 0
Typed m v = (q : Place) → Fits m q (v q)

-- what is assigned on typed valuations is typed
abbrev pub KeepsTypes : Map → (Valuation → Changes) → Type 0
KeepsTypes m assigns = (v : Valuation) → Typed m v → (q : Place) (b : Bit4) → assigns v q ≡ Some b → Fits m q b

pub record TypedMachine (m : Map) (d : Machine) : Type 0 where
  pub start : Typed m d.start
  pub combs : (p : Process) → Member d.combs p → KeepsTypes m p.assigns
  pub edges : (p : EdgeProcess) → Member d.edges p → KeepsTypes m p.updates

-- a process that runs from time zero writes the bit in each run, so what it held before doesn't matter
pub record Overwritten (m : Map) (d : Machine) (q : Place) : Type 0 where
  pub by : Process
  pub is_process : Member d.combs by
  pub from_zero : by.from_zero ≡ true
  pub always : (v : Valuation) → Typed m v → (b : Bit4) × (by.assigns v q ≡ Some b)

module _ (m : Map) where
  -- the target process writes the images of what the source process writes
  pub record SameWrites (source target : List Place) : Type 0 where
    pub images : (q q' : Place) → m.origin q' ≡ Some q → has target q' ≡ has source q
    pub no_more : (q' : Place) → m.origin q' ≡ None → has target q' ≡ false

  -- the target process t does what the source process p does
  pub record Twin (d e : Machine) (p t : Process) : Type 0 where
    pub from_zero : t.from_zero ≡ p.from_zero
    pub writes : SameWrites p.writes t.writes
    pub assigns : (v : Valuation) → Typed m v → (q q' : Place) → m.origin q' ≡ Some q → has p.writes q ≡ true → t.assigns (lifted m v) q' ≡ p.assigns v q
    pub wakes : (v : Valuation) → Typed m v → differs t.waits_for (lifted m v) e.initial ≡ differs p.waits_for v d.initial

  -- the target process t sets bits that are no images to what they hold
  pub record Copy (t : Process) : Type 0 where
    pub from_zero : t.from_zero ≡ true
    pub writes : (q' : Place) → has t.writes q' ≡ true → m.origin q' ≡ None
    pub assigns : (v : Valuation) → Typed m v → (q' : Place) → has t.writes q' ≡ true → t.assigns (lifted m v) q' ≡ Some (m.extra v q')

  -- the edge process t does what p does, in the first row and later
  pub record EdgeTwin (d e : Machine) (p t : EdgeProcess) : Type 0 where
    pub writes : SameWrites p.writes t.writes
    pub first : (w : Valuation) → Typed m w → t.runs e.initial (lifted m w) ≡ p.runs d.initial w
    pub later : (v w : Valuation) → Typed m v → Typed m w → t.runs (lifted m v) (lifted m w) ≡ p.runs v w
    pub updates : (w : Valuation) → Typed m w → (q q' : Place) → m.origin q' ≡ Some q → has p.writes q ≡ true → t.updates (lifted m w) q' ≡ p.updates w q

  -- the target e has a process for each process of the source d, and copies
  pub record Simulates (d e : Machine) : Type 0 where
    pub inputs : SameWrites d.inputs e.inputs
    pub start : (q q' : Place) → m.origin q' ≡ Some q → has d.inputs q ≡ false → (e.start q' ≡ d.start q) ⊎ Overwritten m d q
    pub unwritten : (q' : Place) → m.origin q' ≡ None → NoneWrites (λ (p : Process). p.writes) e.combs q' → (v : Valuation) → Typed m v → m.extra v q' ≡ e.start q'
    pub twin : (p : Process) → Member d.combs p → (t : Process) × Member e.combs t × Twin d e p t
    pub source : (t : Process) → Member e.combs t → ((p : Process) × Member d.combs p × Twin d e p t) ⊎ Copy t
    pub edge_twin : (p : EdgeProcess) → Member d.edges p → (t : EdgeProcess) × Member e.edges t × EdgeTwin d e p t
    pub edge_source : (t : EdgeProcess) → Member e.edges t → (p : EdgeProcess) × Member d.edges p × EdgeTwin d e p t

  -- a row of the target gives its inputs the values that the source's row gives, which are of their types
  pub record SameRow (d : Machine) (row row' : Valuation) : Type 0 where
    pub typed : (q : Place) → has d.inputs q ≡ true → Fits m q (row q)
    pub images : (q q' : Place) → m.origin q' ≡ Some q → has d.inputs q ≡ true → row' q' ≡ row q

  -- the traces of the two agree both ways
  pub record TracesAgree (d e : Machine) (rows rows' : List Valuation) : Type 0 where
    pub forward : (vs : List Valuation) → HasTrace d rows vs → HasTrace e rows' (map (lifted m) vs)
    pub back : (us : List Valuation) → HasTrace e rows' us → (vs : List Valuation) × HasTrace d rows vs × (us ≡ map (lifted m) vs)
