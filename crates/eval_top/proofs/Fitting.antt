-- The rows of a row file fit the design: each vector has as many bits as its signal.
use Rattle.std.proofs.Common.{◌≡◌, ℕ, zero, suc, ◌+◌, ◌*◌, Bool, true, false, cond, List, [], ◌∷◌, ◌++◌, map, length, Option, Some, None, slice_get, slice_index_or, refl, sym, ap, subst, ◌∙◌, arith}
use Rattle.std.specs.List.{filter}
use Rattle.std.specs.Str.{bytes_eq}
use Rattle.std.specs.Prelude.{replicate}
use Rattle.std.proofs.lemmas.List.{length-replicate}
use Rattle.std.proofs.lemmas.Slice.Zip.{AllZip-long}
use Rattle.b4_core.specs.declared.bit.Bit4.{Bit4}
use Rattle.b4_core.specs.declared.bit.Bit4.TheVariants.{Zero}
use Rattle.round_runner.specs.Rows.{FitsRow, FitRows}
use Rattle.v_tree.specs.Names.{Name}
use Rattle.v_tree.specs.Rules.{module_named}
use Rattle.v_tree.specs.declared.items.VDesign.{VDesign}
use Rattle.v_tree.specs.declared.items.VInit.{VInit}
use Rattle.v_tree.specs.declared.items.VItem.{VItem}
use Rattle.v_tree.specs.declared.items.VItem.TheVariants as I
use Rattle.v_tree.specs.declared.items.VModule.{VModule}
use Rattle.v_tree.specs.declared.items.VRegRest.{VRegRest}
use Rattle.v_tree.specs.declared.items.VRegRest.TheVariants as R
use Rattle.v_tree.specs.declared.items.VSignal.{VSignal}
use Rattle.v_tree.specs.declared.items.VSignal.TheVariants.{Input, Output, OutputReg, Wire, Reg}
use Rattle.v_meaning.specs.Scopes.{Named, named}
use Rattle.v_meaning.specs.Modules.{Signal, Kind, input_net, net, variable, signal, signals, numbered, kind_of, parts, parts_from, items_of}
use Rattle.v_meaning.specs.Machine.{size, is_input}
use Rattle.stim_rows.specs.declared.shape.Port.{Port}
use Rattle.stim_rows.specs.RowFiles.{BitFits, RowFits, RowsText}
use Rattle.text_shape.specs.Shapes as shapes
use Rattle.text_shape.specs.Shapes.{shape_of}
use Rattle.cycle_dst.specs.Designs.{widths_of}
use Rattle.eval_top.specs.Running.{inputs_of}

-- an input has no words
pub record Input-kind (s : Signal) : Type 0 where
  pub no_words : s.words ≡ None

plain-init : (range : Option ℕ) (name : Name) (init : Option VInit) → is_input (signal (OutputReg range name init)).kind ≡ true → Input-kind (signal (OutputReg range name init))
plain-init range name None e = cc
plain-init range name (Some init) e = cc

plain-reg : (range : Option ℕ) (name : Name) (rest : Option VRegRest) → is_input (signal (Reg range name rest)).kind ≡ true → Input-kind (signal (Reg range name rest))
plain-reg range name None e = cc
plain-reg range name (Some (R.Initial init)) e = cc
plain-reg range name (Some (R.Memory left)) e = cc

plain : (v : VSignal) → is_input (signal v).kind ≡ true → Input-kind (signal v)
plain (Input range name) e = record { no_words = refl }
plain (Output range name) e = cc
plain (OutputReg range name init) e = plain-init range name init e
plain (Wire range name) e = cc
plain (Reg range name rest) e = plain-reg range name rest e

-- what a name stands for, where it is declared as an input
pub record Declared-input (ss : List Signal) (n : ℕ) (x : Named) : Type 0 where
  pub place : ℕ
  pub at : Signal
  pub there : slice_get ss place ≡ Some at
  pub number : x.number ≡ place + n
  pub width : x.width ≡ at.width
  pub is_plain : Input-kind at

first-or-later : (v : VSignal) (ss : List Signal) (kind : Kind) (x : Named) (n : ℕ) (b : Bool) → is_input (cond b (signal v).kind kind) ≡ true
    → (is_input kind ≡ true → Declared-input ss (suc n) x)
    → Declared-input (signal v ∷ ss) n (cond b (record { name = (signal v).name; number = n; width = (signal v).width; words = (signal v).words }) x)
first-or-later v ss kind x n true e later = record {
  place = 0;
  at = signal v;
  there = refl;
  number = omega arith;
  width = refl;
  is_plain = plain v e;
}
first-or-later v ss kind x n false e later =
    let d = later e in
    record {
      place = suc d.place;
      at = d.at;
      there = d.there;
      number = d.number ∙ (omega arith);
      width = d.width;
      is_plain = d.is_plain;
    }

declared-input : (items : List VItem) (name : Name) (n : ℕ) → is_input (kind_of (signals items) name) ≡ true
    → Declared-input (signals items) n (named (numbered n (signals items)) name)
declared-input [] name n e = cc
declared-input (I.Signal v ∷ rest) name n e =
    first-or-later v (signals rest) (kind_of (signals rest) name) (named (numbered (suc n) (signals rest)) name) n (bytes_eq (signal v).name name) e (declared-input rest name (suc n))
declared-input (I.Initial i ∷ rest) name n e = declared-input rest name n e
declared-input (I.Process p ∷ rest) name n e = declared-input rest name n e
declared-input (I.Function f ∷ rest) name n e = declared-input rest name n e
declared-input (I.Instance i ∷ rest) name n e = declared-input rest name n e

-- the signals of the top stand in front
mapped-at : {A : Type 0} (f : A → ℕ) (xs ys : List A) (i : ℕ) (x : A) → slice_get xs i ≡ Some x → slice_index_or (map f (xs ++ ys)) i 0 ≡ f x
mapped-at f [] ys i x e = cc
mapped-at f (y ∷ xs) ys zero x e = (let same : y ≡ x = cc in ap f same)
mapped-at f (y ∷ xs) ys (suc i) x e = mapped-at f xs ys i x e

size-of-plain : (s : Signal) → Input-kind s → size s ≡ s.width
size-of-plain s p = ap (λ (words : Option ℕ). elim words [ None ↦ s.width | Some count ↦ count * s.width ]) p.no_words

-- an input has as many bits as is said of its port
pub record Same-width (ms : List VModule) (top : Name) (name : Name) : Type 0 where
  pub is : slice_index_or (map size (parts ms top).signals) (named (numbered 0 (signals (items_of ms top))) name).number 0 ≡ (named (numbered 0 (signals (items_of ms top))) name).width

pub record Front (all front : List Signal) : Type 0 where
  pub behind : List Signal
  pub are : all ≡ front ++ behind

front-signals : (depth : ℕ) (ms : List VModule) (top : Name) → Front (parts_from (suc depth) ms 0 top).signals (signals (items_of ms top))
unfolding parts_from
front-signals depth ms top = record { behind = _; are = refl }

same-width : (ms : List VModule) (top name : Name) → is_input (kind_of (signals (items_of ms top)) name) ≡ true → Same-width ms top name
same-width [] top name e = cc
same-width (m ∷ ms) top name e =
    let all = m ∷ ms in
    let d = declared-input (items_of all top) name 0 e in
    let front = front-signals (length ms) all top in
    let number : (named (numbered 0 (signals (items_of all top))) name).number ≡ d.place = d.number ∙ (omega arith) in
    record {
      is =
          ap (λ (k : ℕ). slice_index_or (map size (parts all top).signals) k 0) number
          ∙ ap (λ (ss : List Signal). slice_index_or (map size ss) d.place 0) front.are
          ∙ mapped-at size (signals (items_of all top)) front.behind d.place d.at d.there
          ∙ size-of-plain d.at d.is_plain
          ∙ sym d.width;
    }

-- the vectors of a row, port by port
module _ (ms : List VModule) (top : Name) where
  abbrev ss : List Signal
  ss = signals (items_of ms top)

  abbrev number : Name → ℕ
  number name = (named (numbered 0 ss) name).number

  abbrev port_names : List Name → List Name
  port_names names = filter (λ n. shapes.is_input (kind_of ss n)) names

  -- the rows of some names
  abbrev Fits-names : List Name → Type 0
  Fits-names names = (row : List (List Bit4)) → RowFits (map (shapes.port_named ss) names) row → FitsRow (map size (parts ms top).signals) (map (λ (p : Port). p.signal) (map (shapes.port_named ss) names)) row

  one-more : (name : Name) (names : List Name) → is_input (kind_of ss name) ≡ true → Fits-names names → Fits-names (name ∷ names)
  one-more name names e rest [] z = z
  one-more name names e rest (v ∷ vs) z = (
    AllZip-long BitFits (replicate (named (numbered 0 ss) name).width Zero) v z.0
        ∙ length-replicate (named (numbered 0 ss) name).width Zero
        ∙ sym (same-width ms top name e).is,
    rest vs z.1,
  )

  by-kind : (name : Name) (names : List Name) (kind : Kind) → kind_of ss name ≡ kind → Fits-names names → Fits-names (cond (shapes.is_input kind) (name ∷ names) names)
  by-kind name names input_net e rest = one-more name names (ap is_input e) rest
  by-kind name names net e rest = rest
  by-kind name names variable e rest = rest

  row-by-name : (names : List Name) → Fits-names (port_names names)
  row-by-name [] = λ row z. z
  row-by-name (name ∷ names) = by-kind name (port_names names) (kind_of ss name) refl (row-by-name names)

-- the items of the top, as both sides say them
one-item : (m : VModule) (found : Option VModule) (items : List VItem) (b : Bool) → shapes.top_items found ≡ items → shapes.top_items (cond b (Some m) found) ≡ cond b m.items items
one-item m found items true e = refl
one-item m found items false e = e

pub items-same : (ms : List VModule) (top : Name) → shapes.top_items (module_named ms top) ≡ items_of ms top
items-same [] top = refl
items-same (m ∷ ms) top = one-item m (module_named ms top) (items_of ms top) (bytes_eq m.name top) (items-same ms top)

-- the rows of a row file, as a run takes them
pub row-fits : (e : VDesign) (top : Name) (row : List (List Bit4)) → RowFits (shape_of e top).inputs row → FitsRow (widths_of e top) (inputs_of e top) row
row-fits e top row z =
    let ports = shapes.top_ports (module_named e.modules top) in
    let same = items-same e.modules top in
    subst (λ (items : List VItem). FitsRow (widths_of e top) (map (λ (p : Port). p.signal) (shapes.inputs items ports)) row) (sym same)
    (row-by-name e.modules top ports row (subst (λ (items : List VItem). RowFits (shapes.inputs items ports) row) same z))

pub rows-fit : (e : VDesign) (top : Name) (bytes : List ℕ) (rows : List (List (List Bit4))) → RowsText (shape_of e top).inputs bytes rows → FitRows (widths_of e top) (inputs_of e top) rows
rows-fit e top bytes rows text k d below = row-fits e top (slice_index_or rows k d) (text.fit k d below)
