-- A use of a macro is the same use, seen from the innermost argument alone or with all that comes.
use Rattle.std.proofs.Common.{◌≡◌, ℕ, zero, suc, ◌+◌, ◌&&◌, nat_lt, not, Bool, true, false, List, [], ◌∷◌, ◌++◌, drop, length, Option, Some, None, All, codes, refl, sym, ◌∙◌, subst, arith}
use Rattle.std.specs.Option.{IfSome}
use Rattle.sv_source.specs.Loading.{Contents}
use Rattle.sv_source.specs.declared.token.Token.{Token}
use Rattle.sv_source.specs.declared.refusal.Refusal.{Refusal}
use Rattle.sv_macro.specs.Tokens.{name_of}
use Rattle.sv_macro.specs.Macros.{marked, placed_count, placed}
use Rattle.sv_macro.specs.Brackets.{is_parenthesis}
use Rattle.sv_macro.specs.Lines.{behind_lines}
use Rattle.sv_macro.specs.Lists.{taken, survey, fits, first_of, is_barred, is_cut, is_bare}
use Rattle.sv_macro.specs.declared.lists.Survey.{Survey}
use Rattle.sv_macro.specs.declared.macros.Macro.{Macro}
use Rattle.sv_macro.specs.declared.coming.Coming.{Coming}
use Rattle.sv_macro.specs.declared.coming.Coming.TheVariants.{UseEnd}
use Rattle.sv_macro.proofs.Taken.{some_arguments}
use Rattle.sv_preproc.specs.States as step
use Rattle.sv_preproc.specs.States.{State, Step, spending_limit, broken, with_coming, next_any, behind_next}
use Rattle.sv_preproc.specs.Branches.{skips}
use Rattle.sv_preproc.specs.Uses as uses
use Rattle.sv_preproc.specs.Machine as mach
use Rattle.sv_preproc.specs.Machine.{Machine, Move, machine, is_open, reading, acted}
use Rattle.sv_preproc.specs.Leads as leads
use Rattle.sv_preproc.specs.Leads.{Use, expands, call_of, Leads}
use Rattle.sv_preproc.specs.declared.settings.Settings.{Settings}
use Rattle.sv_preproc.specs.declared.state.Call.{Call}
use Rattle.sv_preproc.proofs.NestedLists.{listed, IsToken, NoList, Next, neither, both}
use Rattle.sv_preproc.proofs.Frames.{Frame, use_of, opens, delivered_in, inner, Fits, Sound, SameFor, fits_lines, fits_next, fits_body, From, Back, breaks_from, goes_back, list_leads}
use Rattle.sv_preproc.proofs.BodyTokens.{placed_tokens}

-- a state in which text is read
pub record Reads (calls : List Call) (s : State) : Type 0 where
  pub inside : s.inside ≡ is_open calls
  pub reads : skips s.files ≡ false

module _ (set : Settings) (told : Option Contents) (calls : List Call) (fs : List Frame) (act : Step → Move)
    (on_goes : (s : State) → act (step.goes s) ≡ mach.goes (machine s calls)) (on_breaks : (r : Refusal) (names : List (List ℕ)) → act (step.breaks r names) ≡ mach.breaks r names) where
  -- what the one step leads to behind the move of the other
  abbrev pub Tells : List Token → Step → Step → Type 0
  Tells delivered seen st = Back set told (From set told (opens delivered calls fs) seen) (act st)

  pub refuses : (s : State) (text : List Coming) (r : Refusal) → Tells s.delivered (step.breaks r (inner s calls text).names) (step.breaks r s.names)
  refuses s text r =
      let P : Move → Type 0 = Back set told (From set told (opens s.delivered calls fs) (step.breaks r s.names)) in
      subst P (sym (on_breaks r s.names)) (breaks_from set told (opens s.delivered calls fs) r s.names)

  pub says : (s : State) (text : List Coming) (rule : ℕ) (t : Token) → Tells s.delivered (broken (inner s calls text) rule t) (broken s rule t)
  says s text rule t = refuses s text (record { rule = rule; place = t.place; word = t.text })

  pub goes_on : (s : State) (text : List Coming) → Sound (machine s calls) fs text → Tells s.delivered (step.goes (inner s calls text)) (step.goes s)
  goes_on s text sound =
      let P : Move → Type 0 = Back set told (From set told (opens s.delivered calls fs) (step.goes (inner s calls text))) in
      subst P (sym (on_goes s)) (goes_back set told s calls fs text sound)

  pub by_test : (delivered : List Token) (b : Bool) (seen other st next : Step) → (b ≡ true → Tells delivered seen st) → (b ≡ false → Tells delivered other next) →
      Tells delivered (elim b as (λ _. Step) [ true ↦ seen | false ↦ other ]) (elim b as (λ _. Step) [ true ↦ st | false ↦ next ])
  by_test delivered true seen other st next f g = f refl
  by_test delivered false seen other st next f g = g refl

  -- the body comes next
  body_tells : (s : State) (text : List Coming) (used : Token) (body : Option (List Coming)) (n : ℕ) → Fits s.uses s.coming calls fs text → Reads calls s → IfSome body (All IsToken) →
      Tells s.delivered (uses.with_body (inner s calls text) used body n) (uses.with_body s used body n)
  body_tells s text used None n w r all = refuses s text (record { rule = 209; place = used.place; word = codes "``" })
  body_tells s text used (Some items) n w r all =
      goes_on (record s { coming = items ++ UseEnd (name_of used) ∷ s.coming; macros = marked s.macros (name_of used) true; uses = s.uses + 1; spent = s.spent + n }) (items ++ UseEnd (name_of used) ∷ text)
      (record { fits = fits_body s.uses s.coming calls fs text items (name_of used) all w; inside = r.inside; reads = λ _. r.reads })

  macro_tells : (s : State) (text : List Coming) (used : Token) (arguments : List (List Token)) (m : Option Macro) → Fits s.uses s.coming calls fs text → Reads calls s →
      Tells s.delivered (uses.with_macro (inner s calls text) used arguments m) (uses.with_macro s used arguments m)
  macro_tells s text used arguments None w r = says s text 202 used
  macro_tells s text used arguments (Some m) w r = by_test s.delivered (nat_lt spending_limit (s.spent + placed_count arguments m.parts)) _ _ _ _ (λ _. says s text 207 used)
      (λ _. body_tells s text used (placed used.place arguments m.parts) (placed_count arguments m.parts) w r (placed_tokens used.place arguments m.parts))

  pub expanded_tells : (s : State) (text : List Coming) (used : Token) (arguments : List (List Token)) → Fits s.uses s.coming calls fs text → Reads calls s →
      Tells s.delivered (uses.expanded (inner s calls text) used arguments) (uses.expanded s used arguments)
  expanded_tells s text used arguments w r = macro_tells s text used arguments (s.macros (name_of used)) w r

module _ (set : Settings) (told : Option Contents) (calls : List Call) (fs : List Frame) where
  abbrev pub Acts : List Token → Step → Step → Type 0
  Acts delivered seen st = Back set told (From set told (opens delivered calls fs) seen) (acted calls st)

  acts_by_test : (delivered : List Token) (b : Bool) (seen other st next : Step) → (b ≡ true → Acts delivered seen st) → (b ≡ false → Acts delivered other next) →
      Acts delivered (elim b as (λ _. Step) [ true ↦ seen | false ↦ other ]) (elim b as (λ _. Step) [ true ↦ st | false ↦ next ])
  acts_by_test delivered true seen other st next f g = f refl
  acts_by_test delivered false seen other st next f g = g refl

  pub acts_says : (s : State) (text : List Coming) (rule : ℕ) (t : Token) → Acts s.delivered (broken (inner s calls text) rule t) (broken s rule t)
  acts_says s text rule t = breaks_from set told (opens s.delivered calls fs) (record { rule = rule; place = t.place; word = t.text }) s.names

  acts_expanded : (s : State) (text : List Coming) (used : Token) (arguments : List (List Token)) → Fits s.uses s.coming calls fs text → Reads calls s →
      Acts s.delivered (uses.expanded (inner s calls text) used arguments) (uses.expanded s used arguments)
  acts_expanded s text used arguments w r = expanded_tells set told calls fs (acted calls) (λ s. refl) (λ r names. refl) s text used arguments w r

  -- a list is taken
  takes_acts : (s : State) (text : List Coming) (used : Token) → Reads calls s → SameFor s.uses calls fs text s.coming → (taken [] s.coming).closed ≡ true →
      Acts s.delivered (step.takes used (inner s calls text)) (step.takes used s)
  takes_acts s text used r same closed =
      let some = some_arguments [] s.coming in
      let call : Call = record { used = used; level = s.uses; brackets = []; arguments = []; argument = [] } in
      let frame : Frame = record { behind = (taken [] text).behind; others = some.rest } in
      let u : Use = use_of s.delivered call calls frame in
      let is : taken [] s.coming ≡ listed some.first some.rest (taken [] s.coming).behind = (λ i. record { arguments = some.are i; closed = closed i; behind = (taken [] s.coming).behind }) in
      let sound : Sound (reading s (call ∷ calls)) (frame ∷ fs) some.first = record { fits = (zero, (taken [] s.coming).behind, omega arith, is, same.behind closed); inside = refl; reads = λ _. r.reads } in
      let called : u ≡ call_of used (inner s calls text) = (λ i. record { used = used; arguments = []; behind = (taken [] text).behind; inside = sym r.inside i; delivered = delivered_in s.delivered calls }) in
      let arguments : some.first ∷ some.rest ≡ (taken [] text).arguments = sym some.are ∙ sym same.arguments in (
        frame ∷ fs,
        some.first,
        sound,
        λ e l.
            let a = list_leads set told u (inner s calls text) some.first some.rest (opens s.delivered calls fs) e l in
            let P : Use → Type 0 = λ v. Leads set told (expands v (inner s calls text) (taken [] text).arguments) a.0 in
            let Q : List (List Coming) → Type 0 = λ as'. Leads set told (expands u (inner s calls text) as') a.0 in
            (a.0, leads.takes used (inner s calls text) a.0 (subst P called (subst Q arguments a.1)), a.2),
      )

  begins_acts : (s : State) (text : List Coming) (used : Token) (arity : ℕ) → Reads calls s → SameFor s.uses calls fs text s.coming → (taken [] s.coming).closed ≡ true →
      Acts s.delivered (uses.list_begins (inner s calls text) used arity (taken [] text).behind) (uses.list_begins s used arity (taken [] s.coming).behind)
  begins_acts s text used zero r same closed =
      acts_expanded (with_coming s (taken [] s.coming).behind) (taken [] text).behind used [] (same.behind closed) (record { inside = r.inside; reads = r.reads })
  begins_acts s text used (suc n) r same closed = takes_acts s text used r same closed

  closed_acts : (s : State) (text : List Coming) (used : Token) (cut : Option Token) (closed : Bool) (seen next : Step) → (closed ≡ true → Acts s.delivered seen next) → Acts s.delivered
      (elim cut as (λ _. Step) [ Some t ↦ broken (inner s calls text) 208 t | None ↦ elim closed as (λ _. Step) [ true ↦ seen | false ↦ broken (inner s calls text) 208 used ] ])
      (elim cut as (λ _. Step) [ Some t ↦ broken s 208 t | None ↦ elim closed as (λ _. Step) [ true ↦ next | false ↦ broken s 208 used ] ])
  closed_acts s text used (Some t) closed seen next f = acts_says s text 208 t
  closed_acts s text used None true seen next f = f refl
  closed_acts s text used None false seen next f = acts_says s text 208 used

  fitting_acts : (s : State) (text : List Coming) (used : Token) (barred : Option Token) (wrong : Bool) (seen next : Step) → Acts s.delivered seen next → Acts s.delivered
      (elim barred as (λ _. Step) [ Some t ↦ broken (inner s calls text) 201 t | None ↦ elim wrong as (λ _. Step) [ true ↦ broken (inner s calls text) 203 used | false ↦ seen ] ])
      (elim barred as (λ _. Step) [ Some t ↦ broken s 201 t | None ↦ elim wrong as (λ _. Step) [ true ↦ broken s 203 used | false ↦ next ] ])
  fitting_acts s text used (Some t) wrong seen next f = acts_says s text 201 t
  fitting_acts s text used None true seen next f = acts_says s text 203 used
  fitting_acts s text used None false seen next f = f

  counted_acts : (s : State) (text : List Coming) (used : Token) (busy : Bool) (seen next : Step) → Acts s.delivered seen next →
      Acts s.delivered (uses.counted (inner s calls text) used busy seen) (uses.counted s used busy next)
  counted_acts s text used busy seen next f = acts_by_test s.delivered busy _ _ _ _ (λ _. acts_says s text 204 used)
      (λ _. acts_by_test s.delivered (nat_lt spending_limit (s.spent + 1)) _ _ _ _ (λ _. acts_says s text 207 used) (λ _. f))

  with_list_acts : (s : State) (text : List Coming) (used : Token) (busy : Bool) (arity : ℕ) → Reads calls s → SameFor s.uses calls fs text s.coming →
      Acts s.delivered (uses.with_list (inner s calls text) used busy arity (taken [] text)) (uses.with_list s used busy arity (taken [] s.coming))
  with_list_acts s text used busy arity r same =
      let v : State = inner s calls text in
      let list : Survey = survey (taken [] s.coming) in
      let P : Survey → Type 0 = λ l. Acts s.delivered (uses.if_fitting v used arity l (uses.counted v used busy (uses.if_closed v used l (uses.list_begins (uses.once_more v) used arity (taken [] text).behind)))) (uses.with_list s used busy arity (taken [] s.coming)) in
      let args : (taken [] s.coming).arguments ≡ (taken [] text).arguments = sym same.arguments in
      let is : list ≡ survey (taken [] text) = (λ i. record { barred = first_of is_barred (args i); cut = first_of is_cut (args i); closed = sym same.closed i; count = length (args i); bare = is_bare (args i) }) in
      subst P is (fitting_acts s text used list.barred (list.closed && not (fits arity list)) _ _ (counted_acts s text used busy _ _
      (closed_acts s text used list.cut list.closed _ _ (λ closed. begins_acts (uses.once_more s) text used arity (record { inside = r.inside; reads = r.reads }) same closed))))

  list_from_acts : (s : State) (text : List Coming) (used : Token) (busy : Bool) (arity : ℕ) (o : Option Token) → Reads calls s → ((t : Token) → o ≡ Some t → is_parenthesis t ≡ true → SameFor s.uses calls fs text s.coming) →
      Acts s.delivered (uses.list_from (inner s calls text) used busy arity o) (uses.list_from s used busy arity o)
  list_from_acts s text used busy arity None r k = acts_says s text 203 used
  list_from_acts s text used busy arity (Some t) r k = acts_by_test s.delivered (is_parenthesis t) _ _ _ _ (λ p. with_list_acts s text used busy arity r (k t refl p)) (λ _. acts_says s text 203 used)

  no_list_acts : (s : State) (text : List Coming) (used : Token) (busy : Bool) (arity : ℕ) (o : Option Token) → NoList o →
      Acts s.delivered (uses.list_from (inner s calls text) used busy arity None) (uses.list_from s used busy arity o)
  no_list_acts s text used busy arity None n = acts_says s text 203 used
  no_list_acts s text used busy arity (Some t) n =
      let P : Bool → Type 0 = λ b. Acts s.delivered (broken (inner s calls text) 203 used) (elim b as (λ _. Step) [ true ↦ uses.with_list s used busy arity (taken [] s.coming) | false ↦ broken s 203 used ]) in
      subst P (sym n) (acts_says s text 203 used)

  next_acts : (s : State) (text : List Coming) (used : Token) (busy : Bool) (arity : ℕ) → Reads calls s → Next (SameFor s.uses calls fs) (behind_lines text) (behind_lines s.coming) →
      Acts s.delivered (uses.use_of (inner s calls text) used busy (Some arity)) (uses.use_of s used busy (Some arity))
  next_acts s text used busy arity r (neither a n) =
      let P : Option Token → Type 0 = λ o. Acts s.delivered (uses.list_from (inner (behind_next s) calls (drop 1 (behind_lines text))) used busy arity o) (uses.list_from (behind_next s) used busy arity (next_any s)) in
      subst P (sym a) (no_list_acts (behind_next s) (drop 1 (behind_lines text)) used busy arity (next_any s) n)
  next_acts s text used busy arity r (both a k) =
      let P : Option Token → Type 0 = λ o. Acts s.delivered (uses.list_from (inner (behind_next s) calls (drop 1 (behind_lines text))) used busy arity o) (uses.list_from (behind_next s) used busy arity (next_any s)) in
      subst P (sym a) (list_from_acts (behind_next s) (drop 1 (behind_lines text)) used busy arity (next_any s) (record { inside = r.inside; reads = r.reads }) k)

  use_of_acts : (s : State) (text : List Coming) (used : Token) (busy : Bool) (arity : Option ℕ) → Fits s.uses s.coming calls fs text → Reads calls s →
      Acts s.delivered (uses.use_of (inner s calls text) used busy arity) (uses.use_of s used busy arity)
  use_of_acts s text used busy None w r = counted_acts s text used busy _ _ (acts_expanded (uses.once_more s) text used [] w (record { inside = r.inside; reads = r.reads }))
  use_of_acts s text used busy (Some arity) w r =
      next_acts s text used busy arity r (fits_next s.uses (behind_lines s.coming) calls fs (behind_lines text) (fits_lines s.uses s.coming calls fs text w))

  used_acts : (s : State) (text : List Coming) (used : Token) (m : Option Macro) → Fits s.uses s.coming calls fs text → Reads calls s →
      Acts s.delivered (uses.used_macro (inner s calls text) used m) (uses.used_macro s used m)
  used_acts s text used None w r = acts_says s text 202 used
  used_acts s text used (Some m) w r = use_of_acts s text used m.busy m.arity w r

  pub use_acts : (s : State) (text : List Coming) (used : Token) → Fits s.uses s.coming calls fs text → Reads calls s →
      Acts s.delivered (uses.use_begins (inner s calls text) used) (uses.use_begins s used)
  use_acts s text used w r = used_acts s text used (s.macros (name_of used)) w r
