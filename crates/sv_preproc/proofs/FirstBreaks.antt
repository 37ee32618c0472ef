-- The refusal of an expansion is the least break of the first state at which a rule is broken.
use Rattle.std.proofs.Common.{◌≡◌, ℕ, Bool, true, false, cond, List, [], ◌∷◌, Option, Some, None, refl, sym, ap, ◌∙◌, subst}
use Rattle.sv_source.specs.Loading.{Contents}
use Rattle.sv_source.specs.declared.token.Token.{Token}
use Rattle.sv_source.specs.declared.refusal.Refusal.{Refusal}
use Rattle.sv_macro.specs.declared.coming.Coming.{Coming}
use Rattle.sv_preproc.specs.States as step
use Rattle.sv_preproc.specs.States.{State, Step}
use Rattle.sv_preproc.specs.Expansion as spec
use Rattle.sv_preproc.specs.Searches.{Ending, finished, stopped, failed, found}
use Rattle.sv_preproc.specs.Runs.{start}
use Rattle.sv_preproc.specs.Breaks as breaks
use Rattle.sv_preproc.specs.Breaks.{Breaks, IsLeast, Answered, none, rules_at}
use Rattle.sv_preproc.specs.Leads as leads
use Rattle.sv_preproc.specs.Leads.{Use, Doing, steps, expands, argument_in, next, next_in, given, with_argument, body_of, Leads}
use Rattle.sv_preproc.specs.FirstBreaks as first
use Rattle.sv_preproc.specs.FirstBreaks.{Passes, BrokenFrom, at_state, at_delivery, at_body, at_search, FirstIsAnswered}
use Rattle.sv_preproc.specs.declared.settings.Settings.{Settings}
use Rattle.sv_preproc.proofs.Breaks.{least_is_answered}

module _ (set : Settings) (told : Option Contents) where
  -- a break that is come to is the ending
  passed_leads : (d : Doing) (st : Step) (r : Refusal) (names : List (List ℕ)) → Passes set told d st → st ≡ step.breaks r names → Leads set told d (stopped r names)
  passed_leads _ _ r names (first.here st) e =
      let P : Step → Type 0 = λ x. Leads set told (steps x) (stopped r names) in
      subst P (sym e) (leads.breaks r names)
  passed_leads _ _ r names (first.goes s st p) e = leads.goes s (stopped r names) (passed_leads (steps (next set s)) st r names p e)
  passed_leads _ _ r names (first.gives t s st p) e = leads.gives t s (stopped r names) (passed_leads (steps (given s t)) st r names p e)
  passed_leads _ _ r names (first.takes used s st p) e = leads.takes used s (stopped r names) (passed_leads _ st r names p e)
  passed_leads _ _ r names (first.argument u s text others st p) e = leads.breaks_in u s text others r names (passed_leads (steps (next set (argument_in s text))) st r names p e)
  passed_leads _ _ r names (first.behind u s t text others st l p) e = leads.argument u s t text others (stopped r names) l (passed_leads (expands (with_argument u t.delivered) t others) st r names p e)
  passed_leads _ _ r names (first.body u s st p) e = leads.body u s (stopped r names) (passed_leads (steps (body_of u s)) st r names p e)
  passed_leads _ _ r names (first.looks search s held st finds p) e = leads.looks search s held (stopped r names) finds (passed_leads (steps (found search s held)) st r names p e)

  -- at the end of a text no rule is broken
  no_break : (s : State) (r : Refusal) → breaks.rules s ≡ none → Breaks s r → ⊥
  no_break s _ e (breaks.directive t f) = absurd (let no : None ≡ Some t = sym (ap (λ (x : breaks.Rules). x.e201) e) ∙ f in cc)
  no_break s _ e (breaks.undefined t f) = absurd (let no : None ≡ Some t = sym (ap (λ (x : breaks.Rules). x.e202) e) ∙ f in cc)
  no_break s _ e (breaks.number t f) = absurd (let no : None ≡ Some t = sym (ap (λ (x : breaks.Rules). x.e203) e) ∙ f in cc)
  no_break s _ e (breaks.own t f) = absurd (let no : None ≡ Some t = sym (ap (λ (x : breaks.Rules). x.e204) e) ∙ f in cc)
  no_break s _ e (breaks.balance t f) = absurd (let no : None ≡ Some t = sym (ap (λ (x : breaks.Rules). x.e205) e) ∙ f in cc)
  no_break s _ e (breaks.limit t f) = absurd (let no : None ≡ Some t = sym (ap (λ (x : breaks.Rules). x.e207) e) ∙ f in cc)
  no_break s _ e (breaks.closed t f) = absurd (let no : None ≡ Some t = sym (ap (λ (x : breaks.Rules). x.e208) e) ∙ f in cc)
  no_break s _ e (breaks.paste t f) = absurd (let no : None ≡ Some t = sym (ap (λ (x : breaks.Rules). x.e209) e) ∙ f in cc)

  -- a state's step is its own, but for the end of an argument
  data Own (s : State) : Step → Type 0 where
    own : Own s (spec.step set s)
    ends : breaks.rules s ≡ none → Own s (step.done s)

  own_by : (s : State) (b : Bool) → breaks.rules s ≡ none → Own s (cond {A = Step} b (step.done s) (spec.step set s))
  own_by s true e = ends e
  own_by s false e = own

  own_in : (s : State) (coming : List Coming) → s.coming ≡ coming → Own s (next_in set s coming)
  own_in s [] e = own_by s s.inside (ap (rules_at s) e)
  own_in s (item ∷ coming) e = own

  own_step : (s : State) → Own s (next set s)
  own_step s = own_in s s.coming refl

  -- a state at which a rule is broken breaks the least
  record Broken (s : State) (st : Step) : Type 0 where
    rule : Refusal
    names : List (List ℕ)
    is : st ≡ step.breaks rule names
    least : IsLeast s rule

  broken_by : (s : State) (other : Refusal) (st : Step) → Answered s st → Breaks s other → Broken s st
  broken_by s other (step.goes t) a b = absurd (a other b)
  broken_by s other (step.gives u t) a b = absurd (a other b)
  broken_by s other (step.takes u t) a b = absurd (a other b)
  broken_by s other (step.looks search t) a b = absurd (a other b)
  broken_by s other (step.done t) a b = absurd (a other b)
  broken_by s other (step.breaks r names) a b = record { rule = r; names = names; is = refl; least = a }

  own_broken : (s : State) (other : Refusal) (st : Step) → Own s st → Breaks s other → Broken s st
  own_broken s other _ own b = broken_by s other (spec.step set s) (least_is_answered set s) b
  own_broken s other _ (ends e) b = absurd (no_break s other e b)

  -- and a step that breaks is the least break of its state
  least_of : (s : State) (st : Step) (r : Refusal) (names : List (List ℕ)) → Answered s st → st ≡ step.breaks r names → IsLeast s r
  least_of s st r names a e = (let P : Step → Type 0 = Answered s in subst P e a)

  own_least : (s : State) (st : Step) (r : Refusal) (names : List (List ℕ)) → Own s st → st ≡ step.breaks r names → IsLeast s r
  own_least s _ r names own e = least_of s (spec.step set s) r names (least_is_answered set s) e
  own_least s _ r names (ends f) e = absurd (let no : step.done s ≡ step.breaks r names = e in cc)

  -- where a refusal stands, seen from what is before
  data Last (d : Doing) (r : Refusal) (names : List (List ℕ)) : Type 0 where
    now : d ≡ steps (step.breaks r names) → Last d r names
    later : BrokenFrom set told d r names → Last d r names

  moved : (c d : Doing) (r : Refusal) (names : List (List ℕ)) → ((st : Step) → Passes set told c st → Passes set told d st) → BrokenFrom set told c r names → BrokenFrom set told d r names
  moved c d r names f (at_state s p l) = at_state s (f _ p) l
  moved c d r names f (at_delivery t s p e) = at_delivery t s (f _ p) e
  moved c d r names f (at_body u s p e) = at_body u s (f _ p) e
  moved c d r names f (at_search search s held p finds e) = at_search search s held (f _ p) finds e

  -- from the step of a state
  from_next : (s : State) (d : Doing) (r : Refusal) (names : List (List ℕ)) → ((st : Step) → Passes set told (steps (next set s)) st → Passes set told d st) → Last (steps (next set s)) r names → BrokenFrom set told d r names
  from_next s d r names f (now e) =
      let is : next set s ≡ step.breaks r names = cc in
      at_state s (f (next set s) (first.here (next set s))) (own_least s (next set s) r names (own_step s) is)
  from_next s d r names f (later b) = moved (steps (next set s)) d r names f b

  from_given : (t : Token) (s : State) (r : Refusal) (names : List (List ℕ)) → Last (steps (given s t)) r names → BrokenFrom set told (steps (step.gives t s)) r names
  from_given t s r names (now e) = (let is : given s t ≡ step.breaks r names = cc in at_delivery t s (first.here (step.gives t s)) is)
  from_given t s r names (later b) = moved _ _ r names (λ st p. first.gives t s st p) b

  from_body : (u : Use) (s : State) (r : Refusal) (names : List (List ℕ)) → Last (steps (body_of u s)) r names → BrokenFrom set told (expands u s []) r names
  from_body u s r names (now e) = (let is : body_of u s ≡ step.breaks r names = cc in at_body u s (first.body u s (body_of u s) (first.here (body_of u s))) is)
  from_body u s r names (later b) = moved _ _ r names (λ st p. first.body u s st p) b

  -- a call that isn't expanded yet is no break
  from_call : (u : Use) (s : State) (texts : List (List Coming)) (d : Doing) (r : Refusal) (names : List (List ℕ)) → ((st : Step) → Passes set told (expands u s texts) st → Passes set told d st) →
      Last (expands u s texts) r names → BrokenFrom set told d r names
  from_call u s texts d r names f (now e) = absurd (let no : expands u s texts ≡ steps (step.breaks r names) = e in cc)
  from_call u s texts d r names f (later b) = moved _ _ r names f b

  last_of : (d : Doing) (e : Ending) (r : Refusal) (names : List (List ℕ)) → Leads set told d e → e ≡ stopped r names → Last d r names
  last_of _ _ r names (leads.goes s e l) is = later (from_next s _ r names (λ st p. first.goes s st p) (last_of (steps (next set s)) e r names l is))
  last_of _ _ r names (leads.gives t s e l) is = later (from_given t s r names (last_of (steps (given s t)) e r names l is))
  last_of _ _ r names (leads.takes used s e l) is = later (from_call _ _ _ _ r names (λ st p. first.takes used s st p) (last_of _ e r names l is))
  last_of _ _ r names (leads.argument u s t text others e l m) is =
      later (from_call _ _ _ _ r names (λ st p. first.behind u s t text others st l p) (last_of (expands (with_argument u t.delivered) t others) e r names m is))
  last_of _ _ r names (leads.breaks_in u s text others q more l) is =
      later (from_next (argument_in s text) _ r names (λ st p. first.argument u s text others st p) (last_of (steps (next set (argument_in s text))) (stopped q more) r names l is))
  last_of _ _ r names (leads.body u s e l) is = later (from_body u s r names (last_of (steps (body_of u s)) e r names l is))
  last_of _ _ r names (leads.looks search s held e finds l) is = later (by_last (last_of (steps (found search s held)) e r names l is))
    where
      by_last : Last (steps (found search s held)) r names → BrokenFrom set told (steps (step.looks search s)) r names
      by_last (now f) = (let lost : found search s held ≡ step.breaks r names = cc in at_search search s held (first.here (step.looks search s)) finds lost)
      by_last (later b) = moved _ _ r names (λ st p. first.looks search s held st finds p) b
  last_of _ _ r names (leads.fails search s path tried) is = absurd (let no : failed path ≡ stopped r names = is in cc)
  last_of _ _ r names (leads.done s) is = absurd (let no : finished s ≡ stopped r names = is in cc)
  last_of _ _ r names (leads.breaks q more) is =
      let a : q ≡ r = cc in
      let b : more ≡ names = cc in
      now (λ i. steps (step.breaks (a i) (b i)))

pub first_is_answered : FirstIsAnswered
first_is_answered = λ set told. record {
  stops = λ s other p b.
      let k = own_broken set told s other (next set s) (own_step set told s) b in
      (k.rule, k.names, k.least, passed_leads set told (steps (next set (start set))) (next set s) k.rule k.names p k.is);
  is = λ r names l. from_next set told (start set) (steps (next set (start set))) r names (λ st p. p) (last_of set told (steps (next set (start set))) (stopped r names) r names l refl);
}
