-- The expansion, a move at a time, is the relation.
use Rattle.std.proofs.Common.{◌≡◌, ℕ, ◌^◌, ◌≤◌, nat_lt, Bool, true, false, List, [], ◌∷◌, ◌++◌, length, Option, Some, None, Result, Ok, Err, refl, sym, ap, ◌∙◌, subst}
use Rattle.sv_source.specs.Loading.{Contents}
use Rattle.sv_source.specs.declared.token.Token.{Token}
use Rattle.sv_source.specs.declared.refusal.Refusal.{Refusal}
use Rattle.sv_macro.specs.Including.{Held}
use Rattle.sv_macro.specs.declared.coming.Coming.{Coming}
use Rattle.sv_preproc.specs.States as step
use Rattle.sv_preproc.specs.States.{State, Step}
use Rattle.sv_preproc.specs.Machine as mach
use Rattle.sv_preproc.specs.Machine.{Machine, machine, is_open, plain, move, Runs}
use Rattle.sv_preproc.specs.Searches.{Ending, finished, stopped, failed, Finds, room_left, opened, lost, found, found_in}
use Rattle.sv_preproc.specs.Runs.{Outcome, expands, refused, start, end_token, Comes}
use Rattle.sv_preproc.specs.Leads as leads
use Rattle.sv_preproc.specs.Leads.{Use, Doing, steps, argument_in, next, with_argument, body_of, call_of, given, Leads}
use Rattle.sv_preproc.specs.Relation.{LeadsTo, Leading, IsOneRelation}
use Rattle.sv_preproc.specs.declared.settings.Settings.{Settings}
use Rattle.sv_preproc.specs.declared.settings.Expanded.{Expanded}
use Rattle.sv_preproc.specs.declared.settings.ExpandFail.{ExpandFail}
use Rattle.sv_preproc.specs.declared.settings.ExpandFail.TheVariants.{Memory, FileFault, Refused}
use Rattle.sv_preproc.specs.Answers.{Reaches, LeadsBy}
use Rattle.sv_preproc.specs.declared.state.Call.{Call}
use Rattle.sv_preproc.specs.declared.turn.Search.{Search}
use Rattle.sv_macro.specs.Lists.{taken}
use Rattle.sv_preproc.proofs.Frames.{Frame, Open, opens, inner, Fits, Sound, From}
use Rattle.sv_preproc.proofs.FilesBack.{Tells, moves_tell}
use Rattle.sv_preproc.proofs.MachineEnds.{IsOutcome}
use Rattle.sv_preproc.proofs.OneOutcome.{has_outcome}

-- a file that is found comes next, or a rule is broken
data FoundStep (s : State) : Step → Type 0 where
  comes_next : (t : State) → t.inside ≡ s.inside → FoundStep s (step.goes t)
  is_lost : (r : Refusal) (names : List (List ℕ)) → FoundStep s (step.breaks r names)

deep_step : (top : Bool) (s : State) (held : Held) (deep : Option Token) → FoundStep s (found_in top s held deep)
deep_step top s held (Some t) = is_lost _ _
deep_step top s held None = comes_next (opened top s held) refl

long_step : (search : Search) (s : State) (held : Held) (long : Bool) → FoundStep s (elim long as (λ _. Step) [ true ↦ lost 102 search s | false ↦ found_in search.top s held search.deep ])
long_step search s held true = is_lost _ _
long_step search s held false = deep_step search.top s held search.deep

found_step : (search : Search) (s : State) (held : Option Held) → FoundStep s (found search s held)
found_step search s None = is_lost _ _
found_step search s (Some held) = long_step search s held (nat_lt (room_left s) (length held.bytes))

record Opened (s : State) (st : Step) (o : Machine) : Type 0 where
  goes : st ≡ step.goes o.state
  calls : o.calls ≡ []
  inside : o.state.inside ≡ s.inside

opened_step : (s : State) (st : Step) (o : Machine) → FoundStep s st → plain [] st ≡ mach.goes o → Opened s st o
opened_step s _ o (comes_next t i) e =
    let same : machine t [] ≡ o = cc in
    record { goes = ap (λ (m : Machine). step.goes m.state) same; calls = ap (λ (m : Machine). m.calls) (sym same); inside = ap (λ (m : Machine). m.state.inside) (sym same) ∙ i }
opened_step s _ o (is_lost r names) e = absurd (let no : mach.breaks r names ≡ mach.goes o = e in cc)

module _ (set : Settings) (told : Option Contents) where
  -- a file comes next
  opened_from : (s : State) (search : Search) (held : Option Held) (o : Machine) (e : Ending) → Finds told search.paths held → Opened s (found search s held) o →
      From set told [] (next set o.state) e → From set told [] (step.looks search s) e
  opened_from s search held o e finds k l =
      let P : Step → Type 0 = λ st. Leads set told (steps st) l.0 in
      (l.0, leads.looks search s held l.0 finds (subst P (sym k.goes) (leads.goes o.state l.0 l.1)), l.2)

  opened_sound : (s : State) (st : Step) (o : Machine) → s.inside ≡ false → Opened s st o → Sound o [] o.state.coming
  opened_sound s st o i k =
      let P : List Call → Type 0 = λ cs. Fits o.state.uses o.state.coming cs [] o.state.coming in
      record {
        fits = subst P (sym k.calls) refl;
        inside = k.inside ∙ i ∙ sym (ap is_open k.calls);
        reads = λ e. absurd (let no : true ≡ false = sym e ∙ ap is_open k.calls in cc);
      }

  from_empty : (os : List Open) (seen st : Step) (e : Ending) → os ≡ [] → seen ≡ st → From set told [] st e → From set told os seen e
  from_empty os seen st e a b l =
      let P : List Open → Type 0 = λ x. From set told x seen e in
      let Q : Step → Type 0 = λ x. From set told [] x e in
      subst P (sym a) (subst Q (sym b) l)

  leads_from : (m : Machine) (e : Ending) → Runs set told m e → (fs : List Frame) (text : List Coming) → Sound m fs text → From set told (opens m.state.delivered m.calls fs) (next set (inner m.state m.calls text)) e
  leads_from _ _ (mach.runs_on m n e is r) fs text sound =
      let g : Tells set told (opens m.state.delivered m.calls fs) (next set (inner m.state m.calls text)) (mach.goes n) =
      subst (Tells set told (opens m.state.delivered m.calls fs) (next set (inner m.state m.calls text))) is (moves_tell set told m.state m.calls fs text sound) in
      g.3 e (leads_from n e r g.0 g.1 g.2)
  leads_from _ _ (mach.ends m n is) fs text sound =
      let g : Tells set told (opens m.state.delivered m.calls fs) (next set (inner m.state m.calls text)) (mach.done n) =
      subst (Tells set told (opens m.state.delivered m.calls fs) (next set (inner m.state m.calls text))) is (moves_tell set told m.state m.calls fs text sound) in
      from_empty _ _ (step.done n.state) (finished n.state) g.0 g.1 (finished n.state, leads.done n.state, refl)
  leads_from _ _ (mach.stops m r names is) fs text sound =
      subst (Tells set told (opens m.state.delivered m.calls fs) (next set (inner m.state m.calls text))) is (moves_tell set told m.state m.calls fs text sound)
  leads_from _ _ (mach.loads m n o search held e is finds opened r) fs text sound =
      let g : Tells set told (opens m.state.delivered m.calls fs) (next set (inner m.state m.calls text)) (mach.looks search n) =
      subst (Tells set told (opens m.state.delivered m.calls fs) (next set (inner m.state m.calls text))) is (moves_tell set told m.state m.calls fs text sound) in
      let k = opened_step n.state (found search n.state held) o (found_step search n.state held) (sym (ap (λ (cs : List Call). plain cs (found search n.state held)) g.2) ∙ opened) in
      let P : List Call → Type 0 = λ cs. From set told (opens o.state.delivered cs []) (next set (inner o.state cs o.state.coming)) e in
      let l = leads_from o e r [] o.state.coming (opened_sound n.state (found search n.state held) o g.3 k) in
      from_empty _ _ (step.looks search n.state) e g.0 g.1 (opened_from n.state search held o e finds k (subst P k.calls l))
  leads_from _ _ (mach.loses m n search held r names is finds gone) fs text sound =
      let g : Tells set told (opens m.state.delivered m.calls fs) (next set (inner m.state m.calls text)) (mach.looks search n) =
      subst (Tells set told (opens m.state.delivered m.calls fs) (next set (inner m.state m.calls text))) is (moves_tell set told m.state m.calls fs text sound) in
      let P : Step → Type 0 = λ st. Leads set told (steps st) (stopped r names) in
      from_empty _ _ (step.looks search n.state) (stopped r names) g.0 g.1 (stopped r names, leads.looks search n.state held (stopped r names) finds (subst P (sym gone) (leads.breaks r names)), refl)
  leads_from _ _ (mach.fails m n search path is tried) fs text sound =
      let g : Tells set told (opens m.state.delivered m.calls fs) (next set (inner m.state m.calls text)) (mach.looks search n) =
      subst (Tells set told (opens m.state.delivered m.calls fs) (next set (inner m.state m.calls text))) is (moves_tell set told m.state m.calls fs text sound) in
      from_empty _ _ (step.looks search n.state) (failed path) g.0 g.1 (failed path, leads.fails search n.state path tried, refl)

  pub run_leads : (e : Ending) → Runs set told (machine (start set) []) e → LeadsTo set told e
  run_leads e r =
      let sound : Sound (machine (start set) []) [] [] = record { fits = refl; inside = refl; reads = λ no. absurd (let x : false ≡ true = no in cc) } in
      let l = leads_from (machine (start set) []) e r [] [] sound in
      let P : Ending → Type 0 = LeadsTo set told in
      subst P l.2 l.1

-- where the contents of the files are told, the relation leads to one outcome
module _ (set : Settings) (contents : Contents) where
  abbrev Lead : Doing → Ending → Type 0
  Lead = Leads set (Some contents)

  from_goes : (s : State) (b : Ending) → Lead (steps (step.goes s)) b → Lead (steps (next set s)) b
  from_goes _ _ (leads.goes s e l) = l

  from_gives : (t : Token) (s : State) (b : Ending) → Lead (steps (step.gives t s)) b → Lead (steps (given s t)) b
  from_gives _ _ _ (leads.gives t s e l) = l

  from_takes : (used : Token) (s : State) (b : Ending) → Lead (steps (step.takes used s)) b → Lead (leads.expands (call_of used s) s (taken [] s.coming).arguments) b
  from_takes _ _ _ (leads.takes used s e l) = l

  from_body : (u : Use) (s : State) (b : Ending) → Lead (leads.expands u s []) b → Lead (steps (body_of u s)) b
  from_body _ _ _ (leads.body u s e l) = l

  from_done : (s : State) (b : Ending) → Lead (steps (step.done s)) b → b ≡ finished s
  from_done _ _ (leads.done s) = refl

  from_breaks : (r : Refusal) (names : List (List ℕ)) (b : Ending) → Lead (steps (step.breaks r names)) b → b ≡ stopped r names
  from_breaks _ _ _ (leads.breaks r names) = refl

  from_looks : (search : Search) (s : State) (b : Ending) → IsOutcome b → Lead (steps (step.looks search s)) b → (held : Option Held) × Finds (Some contents) search.paths held × Lead (steps (found search s held)) b
  from_looks _ _ _ o (leads.looks search s held e finds l) = (held, finds, l)
  from_looks _ _ _ o (leads.fails search s path tried) = absurd o

  data Argument (u : Use) (s : State) (first : List Coming) (others : List (List Coming)) (b : Ending) : Type 0 where
    expanded : (t : State) → Lead (steps (next set (argument_in s first))) (finished t) → Lead (leads.expands (with_argument u t.delivered) t others) b → Argument u s first others b
    broken : (r : Refusal) (names : List (List ℕ)) → Lead (steps (next set (argument_in s first))) (stopped r names) → b ≡ stopped r names → Argument u s first others b

  from_argument : (u : Use) (s : State) (first : List Coming) (others : List (List Coming)) (b : Ending) → Lead (leads.expands u s (first ∷ others)) b → Argument u s first others b
  from_argument _ _ _ _ _ (leads.argument u s t first others e l m) = expanded t l m
  from_argument _ _ _ _ _ (leads.breaks_in u s first others r names l) = broken r names l refl

  both_expanded : (u : Use) (s t : State) (first : List Coming) (others : List (List Coming)) (a b : Ending) → ((c : Ending) → IsOutcome c → Lead (steps (next set (argument_in s first))) c → finished t ≡ c) →
      (Lead (leads.expands (with_argument u t.delivered) t others) b → a ≡ b) → Argument u s first others b → a ≡ b
  both_expanded u s t first others a b same again (expanded v l m) =
      let e : finished t ≡ finished v = same (finished v) tt l in
      let is : v ≡ t = cc in
      let P : State → Type 0 = λ x. Lead (leads.expands (with_argument u x.delivered) x others) b in
      again (subst P is m)
  both_expanded u s t first others a b same again (broken r names l e) = absurd (let no : finished t ≡ stopped r names = same (stopped r names) tt l in cc)

  both_broken : (u : Use) (s : State) (first : List Coming) (others : List (List Coming)) (r : Refusal) (names : List (List ℕ)) (b : Ending) →
      ((c : Ending) → IsOutcome c → Lead (steps (next set (argument_in s first))) c → stopped r names ≡ c) → Argument u s first others b → stopped r names ≡ b
  both_broken u s first others r names b same (expanded v l m) = absurd (let no : stopped r names ≡ finished v = same (finished v) tt l in cc)
  both_broken u s first others r names b same (broken q more l e) = same (stopped q more) tt l ∙ sym e

  one_lead : (d : Doing) (a b : Ending) → IsOutcome a → IsOutcome b → Lead d a → Lead d b → a ≡ b
  one_lead _ _ b oa ob (leads.goes s a l) y = one_lead (steps (next set s)) a b oa ob l (from_goes s b y)
  one_lead _ _ b oa ob (leads.gives t s a l) y = one_lead (steps (given s t)) a b oa ob l (from_gives t s b y)
  one_lead _ _ b oa ob (leads.takes used s a l) y = one_lead (leads.expands (call_of used s) s (taken [] s.coming).arguments) a b oa ob l (from_takes used s b y)
  one_lead _ _ b oa ob (leads.argument u s t first others a l m) y =
      both_expanded u s t first others a b (λ c oc x. one_lead (steps (next set (argument_in s first))) (finished t) c tt oc l x) (λ x. one_lead (leads.expands (with_argument u t.delivered) t others) a b oa ob m x)
      (from_argument u s first others b y)
  one_lead _ _ b oa ob (leads.breaks_in u s first others r names l) y =
      both_broken u s first others r names b (λ c oc x. one_lead (steps (next set (argument_in s first))) (stopped r names) c tt oc l x) (from_argument u s first others b y)
  one_lead _ _ b oa ob (leads.body u s a l) y = one_lead (steps (body_of u s)) a b oa ob l (from_body u s b y)
  one_lead _ _ b oa ob (leads.looks search s held a finds l) y =
      let k = from_looks search s b ob y in
      let same : k.0 ≡ held = sym (k.1.first contents refl) ∙ finds.first contents refl in
      let P : Option Held → Type 0 = λ h. Lead (steps (found search s h)) b in
      one_lead (steps (found search s held)) a b oa ob l (subst P same k.2)
  one_lead _ _ b oa ob (leads.fails search s path tried) y = absurd oa
  one_lead _ _ b oa ob (leads.done s) y = sym (from_done s b y)
  one_lead _ _ b oa ob (leads.breaks r names) y = sym (from_breaks r names b y)

  one_leading : (a b : Outcome) → Leading set (Some contents) a → Leading set (Some contents) b → a ≡ b
  one_leading (expands ts names) (expands us others) x y =
      let e : finished x.0 ≡ finished y.0 = one_lead (steps (next set (start set))) (finished x.0) (finished y.0) tt tt x.1 y.1 in
      let last : x.0 ≡ y.0 = cc in
      let tokens : ts ≡ us = x.2 ∙ ap (λ (s : State). s.delivered ++ end_token s.ending ∷ []) last ∙ sym y.2 in
      let files : names ≡ others = x.3 ∙ ap (λ (s : State). s.names) last ∙ sym y.3 in
      λ i. expands (tokens i) (files i)
  one_leading (refused r names) (refused q others) x y =
      let e : stopped r names ≡ stopped q others = one_lead (steps (next set (start set))) (stopped r names) (stopped q others) tt tt x y in cc
  one_leading (expands ts names) (refused q others) x y =
      absurd (let e : finished x.0 ≡ stopped q others = one_lead (steps (next set (start set))) (finished x.0) (stopped q others) tt tt x.1 y in cc)
  one_leading (refused r names) (expands us others) x y =
      absurd (let e : stopped r names ≡ finished y.0 = one_lead (steps (next set (start set))) (stopped r names) (finished y.0) tt tt x y.1 in cc)

comes_leading : (set : Settings) (told : Option Contents) (outcome : Outcome) → Comes set told outcome → Leading set told outcome
comes_leading set told (expands ts names) c = (c.last, run_leads set told (finished c.last) c.runs, c.tokens, c.files)
comes_leading set told (refused r names) c = run_leads set told (stopped r names) c

-- an answer that is what the expansion comes to is what the relation leads to
pub reaches_leads : (set : Settings) (told : Option Contents) (result : Result Expanded ExpandFail) → Reaches set told result → LeadsBy set told result
reaches_leads set told (Ok e) r = comes_leading set told (expands e.tokens e.files) r
reaches_leads set told (Err Memory) r = tt
reaches_leads set told (Err (FileFault path)) r = λ contents is. run_leads set (Some contents) (failed path) (r contents is)
reaches_leads set told (Err (Refused refusal files)) r = comes_leading set told (refused refusal files) r

leading_comes : (set : Settings) → length set.files ≤ 2 ^ 30 → (contents : Contents) (outcome : Outcome) → Leading set (Some contents) outcome → Comes set (Some contents) outcome
leading_comes set few contents outcome l =
    let h = has_outcome set few contents in
    let same : h.outcome ≡ outcome = one_leading set contents h.outcome outcome (comes_leading set (Some contents) h.outcome h.comes) l in
    let P : Outcome → Type 0 = Comes set (Some contents) in
    subst P same h.comes

pub one_relation : IsOneRelation
one_relation = λ set few. record {
  leads = comes_leading set;
  looks = λ contents path l. run_leads set (Some contents) (failed path) l;
  comes = leading_comes set few;
}
