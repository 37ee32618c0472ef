-- What a machine with open calls leads to: what the innermost argument leads to, then the arguments that are left of its
-- call and the body, and so on outwards.
use Rattle.std.proofs.Common.{◌≡◌, ℕ, suc, ◌+◌, true, false, List, [], ◌∷◌, ◌++◌, drop, Option, All, refl, ap, arith}
use Rattle.sv_source.specs.Loading.{Contents}
use Rattle.sv_source.specs.declared.token.Token.{Token}
use Rattle.sv_source.specs.declared.refusal.Refusal.{Refusal}
use Rattle.sv_macro.specs.Lines.{behind_lines, any_token, first_by}
use Rattle.sv_macro.specs.Lists.{taken}
use Rattle.sv_macro.specs.declared.coming.Coming.{Coming}
use Rattle.sv_macro.specs.declared.coming.Coming.TheVariants.{UseEnd}
use Rattle.sv_preproc.specs.States as step
use Rattle.sv_preproc.specs.States.{State, Step}
use Rattle.sv_preproc.specs.Branches.{skips}
use Rattle.sv_preproc.specs.Machine as mach
use Rattle.sv_preproc.specs.Machine.{Machine, Move, machine, is_open}
use Rattle.sv_preproc.specs.Searches.{Ending, finished, stopped, failed}
use Rattle.sv_preproc.specs.Leads as leads
use Rattle.sv_preproc.specs.Leads.{Use, Doing, steps, expands, argument_in, next, with_argument, body_of, Leads}
use Rattle.sv_preproc.specs.declared.settings.Settings.{Settings}
use Rattle.sv_preproc.specs.declared.state.Call.{Call}
use Rattle.sv_preproc.proofs.NestedLists.{Same_list, Inside, Opened, Next, neither, both, IsToken, list_inside, lines_inside, next_inside, tokens_inside}

-- of an open call: what comes behind its list in the text that holds it, and its arguments that are left
pub record Frame : Type 0 where
  pub behind : List Coming
  pub others : List (List Coming)

-- an open call of the relation, and its arguments that are left
pub record Open : Type 0 where
  pub call : Use
  pub others : List (List Coming)

-- what the innermost text has delivered
abbrev pub delivered_in : List Token → List Call → List Token
delivered_in delivered [] = delivered
delivered_in delivered (c ∷ cs) = c.argument

abbrev pub use_of : List Token → Call → List Call → Frame → Use
use_of delivered c cs f = record { used = c.used; arguments = c.arguments; behind = f.behind; inside = is_open cs; delivered = delivered_in delivered cs }

abbrev pub opens : List Token → List Call → List Frame → List Open
opens delivered [] fs = []
opens delivered (c ∷ cs) [] = []
opens delivered (c ∷ cs) (f ∷ fs) = (record { call = use_of delivered c cs f; others = f.others }) ∷ opens delivered cs fs

-- the state, seen from the innermost text
abbrev pub inner : State → List Call → List Coming → State
inner s calls text = record s { coming = text; delivered = delivered_in s.delivered calls }

-- the innermost text in all that comes
abbrev pub Fits : ℕ → List Coming → List Call → List Frame → List Coming → Type 0
Fits uses coming [] [] text = text ≡ coming
Fits uses coming [] (f ∷ fs) text = ⊥
Fits uses coming (c ∷ cs) [] text = ⊥
Fits uses coming (c ∷ cs) (f ∷ fs) text =
    (depth : ℕ) × (behind : List Coming) × (uses ≡ depth + c.level) × Inside c.brackets f.others behind depth text coming × Fits c.level behind cs fs f.behind

pub record Sound (m : Machine) (fs : List Frame) (text : List Coming) : Type 0 where
  pub fits : Fits m.state.uses m.state.coming m.calls fs text
  pub inside : m.state.inside ≡ is_open m.calls
  pub reads : is_open m.calls ≡ true → skips m.state.files ≡ false

-- behind newlines
pub fits_lines : (uses : ℕ) (coming : List Coming) (calls : List Call) (fs : List Frame) (text : List Coming) → Fits uses coming calls fs text → Fits uses (behind_lines coming) calls fs (behind_lines text)
fits_lines uses coming [] [] text w = ap behind_lines w
fits_lines uses coming [] (f ∷ fs) text w = absurd w
fits_lines uses coming (c ∷ cs) [] text w = absurd w
fits_lines uses coming (c ∷ cs) (f ∷ fs) text w = (w.0, w.1, w.2, lines_inside c.brackets f.others w.1 w.0 text coming w.3, w.4)

-- a list behind a parenthesis
abbrev pub SameFor : ℕ → List Call → List Frame → List Coming → List Coming → Type 0
SameFor uses calls fs text coming = Same_list (λ x y. Fits uses y calls fs x) (taken [] text) (taken [] coming)

next_of : (uses : ℕ) (c : Call) (cs : List Call) (f : Frame) (fs : List Frame) (depth : ℕ) (behind text coming : List Coming) → uses ≡ depth + c.level → Fits c.level behind cs fs f.behind →
    Next (Opened c.brackets f.others behind depth) text coming → Next (SameFor uses (c ∷ cs) (f ∷ fs)) text coming
next_of uses c cs f fs depth behind text coming e w (neither a b) = neither a b
next_of uses c cs f fs depth behind text coming e w (both a k) = both a (λ t found p.
    let s = list_inside c.brackets f.others behind depth (drop 1 text) (drop 1 coming) (k t found p) in
    record { arguments = s.arguments; closed = s.closed; behind = λ is. (depth, behind, e, s.behind is, w) })

pub fits_next : (uses : ℕ) (coming : List Coming) (calls : List Call) (fs : List Frame) (text : List Coming) → Fits uses coming calls fs text → Next (SameFor uses calls fs) text coming
fits_next uses coming [] [] text w = both (ap (first_by any_token) w) (λ t found p. record {
  arguments = ap (λ (l : List Coming). (taken [] (drop 1 l)).arguments) w;
  closed = ap (λ (l : List Coming). (taken [] (drop 1 l)).closed) w;
  behind = λ is. ap (λ (l : List Coming). (taken [] (drop 1 l)).behind) w;
})
fits_next uses coming [] (f ∷ fs) text w = absurd w
fits_next uses coming (c ∷ cs) [] text w = absurd w
fits_next uses coming (c ∷ cs) (f ∷ fs) text w = next_of uses c cs f fs w.0 w.1 text coming w.2 w.4 (next_inside c.brackets f.others w.1 w.0 text coming w.3)

-- a body comes next
pub fits_body : (uses : ℕ) (coming : List Coming) (calls : List Call) (fs : List Frame) (text items : List Coming) (name : List ℕ) → All IsToken items → Fits uses coming calls fs text →
    Fits (uses + 1) (items ++ UseEnd name ∷ coming) calls fs (items ++ UseEnd name ∷ text)
fits_body uses coming [] [] text items name all w = ap (λ (l : List Coming). items ++ UseEnd name ∷ l) w
fits_body uses coming [] (f ∷ fs) text items name all w = absurd w
fits_body uses coming (c ∷ cs) [] text items name all w = absurd w
fits_body uses coming (c ∷ cs) (f ∷ fs) text items name all w =
    (suc w.0, w.1, omega (arith, w.2), tokens_inside c.brackets f.others w.1 w.0 items (UseEnd name ∷ text) (UseEnd name ∷ coming) all (text, refl, w.3), w.4)

module _ (set : Settings) (told : Option Contents) where
  -- what the calls around a text lead to by its ending
  abbrev pub Then : List Open → Ending → Ending → Type 0
  Then [] ending e = ending ≡ e
  Then (o ∷ os) (finished t) e = (last : Ending) × Leads set told (expands (with_argument o.call t.delivered) t o.others) last × Then os last e
  Then (o ∷ os) (stopped r names) e = Then os (stopped r names) e
  Then (o ∷ os) (failed path) e = ⊥

  abbrev pub From : List Open → Step → Ending → Type 0
  From os st e = (ending : Ending) × Leads set told (steps st) ending × Then os ending e

  pub stopped_then : (os : List Open) (r : Refusal) (names : List (List ℕ)) → Then os (stopped r names) (stopped r names)
  stopped_then [] r names = refl
  stopped_then (o ∷ os) r names = stopped_then os r names

  pub breaks_from : (os : List Open) (r : Refusal) (names : List (List ℕ)) → From os (step.breaks r names) (stopped r names)
  breaks_from os r names = (stopped r names, leads.breaks r names, stopped_then os r names)

  -- the next argument of a call
  argument_leads : (u : Use) (s : State) (first : List Coming) (others : List (List Coming)) (os : List Open) (ending e : Ending) →
      Leads set told (steps (next set (argument_in s first))) ending → Then ((record { call = u; others = others }) ∷ os) ending e → (last : Ending) × Leads set told (expands u s (first ∷ others)) last × Then os last e
  argument_leads u s first others os (finished t) e l k = (k.0, leads.argument u s t first others k.0 l k.1, k.2)
  argument_leads u s first others os (stopped r names) e l k = (stopped r names, leads.breaks_in u s first others r names l, k)
  argument_leads u s first others os (failed path) e l k = absurd k

  pub list_leads : (u : Use) (s : State) (first : List Coming) (others : List (List Coming)) (os : List Open) (e : Ending) →
      From ((record { call = u; others = others }) ∷ os) (next set (argument_in s first)) e → (last : Ending) × Leads set told (expands u s (first ∷ others)) last × Then os last e
  list_leads u s first others os e l = argument_leads u s first others os l.0 e l.1 l.2

  -- what a move tells: what the machine behind it leads to, the one before it leads to
  abbrev pub Back : (Ending → Type 0) → Move → Type 0
  Back K (mach.goes n) = (fs : List Frame) × (text : List Coming) × Sound n fs text × ((e : Ending) → From (opens n.state.delivered n.calls fs) (next set (inner n.state n.calls text)) e → K e)
  Back K (mach.looks search n) = ⊥
  Back K (mach.done n) = ⊥
  Back K (mach.breaks r names) = K (stopped r names)

  pub under : (K H : Ending → Type 0) (mv : Move) → ((e : Ending) → K e → H e) → Back K mv → Back H mv
  under K H (mach.goes n) f b = (b.0, b.1, b.2, λ e l. f e (b.3 e l))
  under K H (mach.looks search n) f b = absurd b
  under K H (mach.done n) f b = absurd b
  under K H (mach.breaks r names) f b = f (stopped r names) b

  pub goes_back : (s : State) (calls : List Call) (fs : List Frame) (text : List Coming) → Sound (machine s calls) fs text → Back (From (opens s.delivered calls fs) (step.goes (inner s calls text))) (mach.goes (machine s calls))
  goes_back s calls fs text sound = (fs, text, sound, λ e l. (l.0, leads.goes (inner s calls text) l.0 l.1, l.2))
