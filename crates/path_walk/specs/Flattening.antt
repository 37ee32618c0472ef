-- What flattened select paths read and name (IEEE 1800-2017 clauses 9.4.2.2 and 11.5.1, IEEE 1364-2005 clause 5.4).
use Rattle.std.specs.Prelude.{◌≡◌, ℕ, Bool, true, List, ◌++◌, length, Option}
use Rattle.row_machine.specs.Valuation.{Valuation}
use Rattle.sv_types.specs.declared.expression.Expr.{Expr}
use Rattle.sv_types.specs.declared.expression.Form.{out-Form}
use Rattle.sv_types.specs.declared.expression.Form.TheVariants as V
use Rattle.sv_types.specs.Surroundings.{Around}
use Rattle.sv_types.specs.Meanings as S
use Rattle.sv_types.specs.Expressions.{meaning}
use Rattle.v_tree.specs.declared.names.Helper.{Helper}
use Rattle.v_tree.specs.declared.names.NameMap.{NameMap}
use Rattle.v_meaning.specs.Scopes.{Scope}
use Rattle.v_meaning.specs.Values as T
use Rattle.eval_parts.specs.Steps.{is_path}
use Rattle.lowering_laws.specs.Agreeing.{Images, Agree, Stands}
use Rattle.lowering_laws.specs.NamedImages.{numbers, AreImages, SameNames}
use Rattle.lowering_laws.specs.Same.{Same}
use Rattle.lowering_laws.specs.Steps.{IsPath}
use Rattle.path_flatten.specs.declared.readings.Reading.{Reading}
use Rattle.path_flatten.specs.declared.slides.PartSelect.{PartSelect}
use Rattle.path_flatten.specs.Helping.{EachHelps}
use Rattle.path_flatten.specs.Naming.{SameNumbers, root_names}
use Rattle.path_flatten.specs.Reading.{Reads}
use Rattle.path_steps.specs.Stands.{stand_names}
use Rattle.path_walk.specs.declared.indices.StepIndex.{StepIndex}
use Rattle.path_walk.specs.Bases.{HasStand, stand_of, HoldsBits, stand_numbers}
use Rattle.path_walk.specs.Indices.{AreIndices, NameImages, all_names}
use Rattle.path_walk.specs.Selects.{Select, path_form, IsPathOn, indices_of}

-- The text holds what a path stands on, has the values of its indices in order, and has the helpers.
pub record TextHolds (names : NameMap) (value : Option T.Meaning) (base : Expr) (ss : List Select) (xs : List StepIndex) (hs : List Helper) (a : Around) (sc : Scope) (v : Valuation) : Type 0 where
  pub holds : HoldsBits (stand_of names value base) (meaning base) ss a sc v
  pub indices : AreIndices (indices_of ss) xs a sc v
  pub helps : EachHelps hs sc

-- what a path stands on and its indices name
abbrev pub path_names : NameMap → Option T.Meaning → Expr → List StepIndex → Scope → List ℕ
path_names names value base xs sc = stand_numbers (stand_of names value base) sc ++ all_names xs sc

-- A reading reads a path wherever the text stands for it, and names what the path stands on and its indices name.
pub record Found (names : NameMap) (value : Option T.Meaning) (base : Expr) (ss : List Select) (e : Expr) (xs : List StepIndex) (hs : List Helper) (r : Reading) : Type 0 where
  pub reads : (a : Around) (sc : Scope) (v : Valuation) → TextHolds names value base ss xs hs a sc v → Reads r (meaning e) a sc v
  pub named : (sc : Scope) → SameNumbers (path_names names value base xs sc) (root_names r.root sc)
  pub images : (image : ℕ → ℕ) (sc : Scope) → AreImages image (stand_names (meaning base)) (stand_numbers (stand_of names value base) sc) → NameImages image (indices_of ss) xs sc
      → AreImages image (stand_names (meaning e)) (path_names names value base xs sc)
  pub path : is_path (out-Form e.form) ≡ true → (a : Around) → IsPath (meaning e) a
  pub kept : is_path (out-Form e.form) ≡ true → SameNumbers (numbers (meaning e).names) (numbers (stand_names (meaning e)))

-- so it is whatever the selects are, if there are as many indices, and what the path stands on has one stand in the text
abbrev pub Finds : NameMap → Option T.Meaning → Expr → List StepIndex → List Helper → Reading → Type 0
Finds names value e xs hs r = (base : Expr) (ss : List Select) → IsPathOn base ss e → length xs ≡ length (indices_of ss) → HasStand names value (path_form base) → Found names value base ss e xs hs r

-- a reading of each element by an index, and of each indexed part-select, of an expression
abbrev pub FindsElement : NameMap → Option T.Meaning → Expr → List StepIndex → List Helper → Reading → Type 0
FindsElement names value from xs hs r = (e i : Expr) → e.form ≡ V.Index from i → (meaning e).misfits ≡ 0 → Finds names value e xs hs r

abbrev pub FindsSlide : NameMap → Option T.Meaning → Expr → PartSelect → List StepIndex → List Helper → Reading → Type 0
FindsSlide names value from part xs hs r = (e i : Expr) → e.form ≡ V.Slide from i part.count part.up → (meaning e).misfits ≡ 0 → part.bits ≡ S.wide (meaning e) → Finds names value e xs hs r

-- An expression of the text has the path's value at each width and sign of a context wherever the text stands for the path, and
-- names what the path stands on and its indices name, all of it and nothing else.
pub record Flattened (names : NameMap) (value : Option T.Meaning) (base : Expr) (ss : List Select) (e : Expr) (xs : List StepIndex) (hs : List Helper) (m : T.Meaning) : Type 0 where
  pub same : (a : Around) (sc : Scope) (v : Valuation) → TextHolds names value base ss xs hs a sc v → (w : ℕ) (s : Bool) → Same (meaning e) w s a m sc v
  pub named : (sc : Scope) → SameNumbers (path_names names value base xs sc) (m.names sc)

-- so it does for a select path, whatever its selects are, if there are as many indices, and what the path stands on has one stand in the text
abbrev pub Flattens : NameMap → Option T.Meaning → Expr → List StepIndex → List Helper → T.Meaning → Type 0
Flattens names value e xs hs m = (base : Expr) (ss : List Select) → is_path (out-Form e.form) ≡ true → IsPathOn base ss e → length xs ≡ length (indices_of ss) → HasStand names value (path_form base)
    → Flattened names value base ss e xs hs m

-- On all valuations that agree the text holds a path, and it names the images of what the path stands on and of what its indices name.
pub record AllHold (names : NameMap) (value : Option T.Meaning) (base : Expr) (ss : List Select) (xs : List StepIndex) (hs : List Helper) (im : Images) (a : Around) (sc : Scope) : Type 0 where
  pub holds : (now v : Valuation) → Agree im now v → TextHolds names value base ss xs hs (record a { now = now }) sc v
  pub base_images : AreImages im.number (stand_names (meaning base)) (stand_numbers (stand_of names value base) sc)
  pub index_images : NameImages im.number (indices_of ss) xs sc

-- Then the expression stands for the path at each width and sign on all of them, and names the images of what the path names, all of
-- them and no other.
pub record PathStood (im : Images) (a : Around) (sc : Scope) (e : S.Meaning) (m : T.Meaning) : Type 0 where
  pub stands : (w : ℕ) (s : Bool) → Stands im a sc e w s m
  pub named : SameNames im.number e m sc

abbrev pub StandsForPath : NameMap → Option T.Meaning → Expr → List StepIndex → List Helper → T.Meaning → Type 0
StandsForPath names value e xs hs m = (base : Expr) (ss : List Select) (im : Images) (a : Around) (sc : Scope) → is_path (out-Form e.form) ≡ true → IsPathOn base ss e → length xs ≡ length (indices_of ss)
    → HasStand names value (path_form base) → AllHold names value base ss xs hs im a sc → PathStood im a sc (meaning e) m
