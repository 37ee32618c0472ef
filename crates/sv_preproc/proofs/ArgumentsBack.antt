-- A move in an argument of an open call is a step of that argument alone, or its end.
use Rattle.std.proofs.Common.{◌≡◌, ℕ, zero, suc, ◌+◌, ◌-◌, ◌==◌, ◌&&◌, not, Bool, true, false, cond, List, [], ◌∷◌, ◌++◌, Option, refl, sym, ap, ◌∙◌, subst, arith}
use Rattle.std.proofs.lemmas.Bool.Decides.{nat_tests}
use Rattle.sv_source.specs.Loading.{Contents}
use Rattle.sv_source.specs.declared.token.Kind.{Kind}
use Rattle.sv_source.specs.declared.token.Kind.TheVariants as K
use Rattle.sv_source.specs.declared.token.Token.{Token}
use Rattle.sv_macro.specs.Tokens.{said_by}
use Rattle.sv_macro.specs.Macros.{marked}
use Rattle.sv_macro.specs.Brackets.{sign_of, sign_by, brackets_behind}
use Rattle.sv_macro.specs.Lists as lists
use Rattle.sv_macro.specs.Lists.{Taken, Place_in_list, at_end, splitting, belonging, sign_in, place_in, taken}
use Rattle.sv_macro.specs.declared.words.Word.{Word}
use Rattle.sv_macro.specs.declared.words.Word.TheVariants as W
use Rattle.sv_macro.specs.declared.brackets.Bracket.{Bracket}
use Rattle.sv_macro.specs.declared.brackets.Bracket.TheVariants.{Round, Square, Curly}
use Rattle.sv_macro.specs.declared.brackets.Sign.{Sign}
use Rattle.sv_macro.specs.declared.brackets.Sign.TheVariants.{Opens, Closes, ClosesStar, Comma, Other}
use Rattle.sv_macro.specs.declared.coming.Coming.{Coming}
use Rattle.sv_macro.specs.declared.coming.Coming.TheVariants.{Raw, Kept, FileEnd, UseEnd}
use Rattle.sv_preproc.specs.States as step
use Rattle.sv_preproc.specs.States.{State, Step, broken, with_coming}
use Rattle.sv_preproc.specs.Branches.{skips}
use Rattle.sv_preproc.specs.Uses as uses
use Rattle.sv_preproc.specs.Expansion as spec
use Rattle.sv_preproc.specs.Machine as mach
use Rattle.sv_preproc.specs.Machine.{Machine, Move, machine, is_open, reading, plain, acted, given_to, in_brackets, in_call, into_argument, call_goes_on, call_complete, argument_ends}
use Rattle.sv_preproc.specs.Searches.{finished}
use Rattle.sv_preproc.specs.Leads as leads
use Rattle.sv_preproc.specs.Leads.{Use, steps, expands, next, with_argument, Leads}
use Rattle.sv_preproc.specs.declared.settings.Settings.{Settings}
use Rattle.sv_preproc.specs.declared.state.Call.{Call}
use Rattle.sv_preproc.proofs.NestedLists.{listed, Head, closes, splits, belongs, head_of, Inside, IsOutside, sign_other, not_other}
use Rattle.sv_preproc.proofs.Frames.{Frame, use_of, opens, inner, Fits, Sound, From, Back, under, goes_back, list_leads}
use Rattle.sv_preproc.proofs.UsesBack.{Reads, Acts, acts_says, expanded_tells, use_acts}

-- only a mark is a bracket or a comma
pub sign_kind : (t : Token) (kind : Kind) → t.kind ≡ kind → sign_of t ≡ sign_by kind t
unfolding sign_of
sign_kind t kind e = ap (λ (k : Kind). sign_by k t) e

kind_mark : (t : Token) → (sign_of t ≡ Other → ⊥) → t.kind ≡ K.Mark
unfolding sign_of
kind_mark t = by_kind t.kind
  where
    by_kind : (kind : Kind) → (sign_by kind t ≡ Other → ⊥) → kind ≡ K.Mark
    by_kind K.Mark n = refl
    by_kind _ n = absurd (n refl)

same_level : (a b : ℕ) → a ≡ b → (b == a) ≡ true
same_level a b e = grind (arith, nat_tests)

deeper_level : (a b d : ℕ) → a ≡ suc d + b → (b == a) ≡ false
deeper_level a b d e = grind (arith, nat_tests)

-- what is given to the innermost call
module _ (u : State) (t : Token) (c : Call) (cs : List Call) where
  given_same : u.uses ≡ c.level → given_to u t (c ∷ cs) ≡ in_brackets u c cs t c.brackets
  given_same e = ap (λ (b : Bool). elim b as (λ _. Move) [ true ↦ in_call u c cs t | false ↦ into_argument u c cs t ]) (same_level u.uses c.level e)

  pub given_deeper : (d : ℕ) → u.uses ≡ suc d + c.level → given_to u t (c ∷ cs) ≡ into_argument u c cs t
  given_deeper d e = ap (λ (b : Bool). elim b as (λ _. Move) [ true ↦ in_call u c cs t | false ↦ into_argument u c cs t ]) (deeper_level u.uses c.level d e)

  outside_goes : (sign : Sign) (more : List Bracket) → sign_in [] sign ≡ belonging more → (mach.outside_brackets u c cs t sign ≡ call_goes_on u c cs t) × (more ≡ brackets_behind sign [])
  outside_goes (Opens b) more e = (refl, (let f : belonging (b ∷ []) ≡ belonging more = e in cc))
  outside_goes (Closes Round) more e = absurd (let no : lists.closing ≡ belonging more = e in cc)
  outside_goes (Closes Square) more e = (refl, (let f : belonging [] ≡ belonging more = e in cc))
  outside_goes (Closes Curly) more e = (refl, (let f : belonging [] ≡ belonging more = e in cc))
  outside_goes ClosesStar more e = absurd (let no : at_end ≡ belonging more = e in cc)
  outside_goes Comma more e = absurd (let no : splitting ≡ belonging more = e in cc)
  outside_goes Other more e = (refl, (let f : belonging [] ≡ belonging more = e in cc))

  goes_in : (brackets : List Bracket) (more : List Bracket) → sign_in brackets (sign_of t) ≡ belonging more → (in_brackets u c cs t brackets ≡ call_goes_on u c cs t) × (more ≡ brackets_behind (sign_of t) brackets)
  goes_in [] more e = outside_goes (sign_of t) more e
  goes_in (b ∷ bs) more e = (refl, (let f : belonging (brackets_behind (sign_of t) (b ∷ bs)) ≡ belonging more = e in cc))

  abbrev longer : List Bracket → Call
  longer brackets = record c { argument = c.argument ++ t ∷ []; brackets = brackets }

  pub given_belongs : (more : List Bracket) → u.uses ≡ c.level → sign_in c.brackets (sign_of t) ≡ belonging more → given_to u t (c ∷ cs) ≡ mach.goes (reading u (longer more ∷ cs))
  given_belongs more e p =
      let g = goes_in c.brackets more p in
      given_same e ∙ g.0 ∙ ap (λ (l : List Bracket). mach.goes (reading u (longer l ∷ cs))) (sym g.1)

  outside_closes : (sign : Sign) → sign_in [] sign ≡ lists.closing → mach.outside_brackets u c cs t sign ≡ call_complete u c cs
  outside_closes (Opens b) e = absurd (let no : belonging (b ∷ []) ≡ lists.closing = e in cc)
  outside_closes (Closes Round) e = refl
  outside_closes (Closes Square) e = absurd (let no : belonging [] ≡ lists.closing = e in cc)
  outside_closes (Closes Curly) e = absurd (let no : belonging [] ≡ lists.closing = e in cc)
  outside_closes ClosesStar e = absurd (let no : at_end ≡ lists.closing = e in cc)
  outside_closes Comma e = absurd (let no : splitting ≡ lists.closing = e in cc)
  outside_closes Other e = absurd (let no : belonging [] ≡ lists.closing = e in cc)

  closes_in : (brackets : List Bracket) → sign_in brackets (sign_of t) ≡ lists.closing → in_brackets u c cs t brackets ≡ call_complete u c cs
  closes_in [] e = outside_closes (sign_of t) e
  closes_in (b ∷ bs) e = absurd (let no : belonging (brackets_behind (sign_of t) (b ∷ bs)) ≡ lists.closing = e in cc)

  pub given_closes : u.uses ≡ c.level → sign_in c.brackets (sign_of t) ≡ lists.closing → given_to u t (c ∷ cs) ≡ call_complete u c cs
  given_closes e p = given_same e ∙ closes_in c.brackets p

  outside_splits : (sign : Sign) → sign_in [] sign ≡ splitting → mach.outside_brackets u c cs t sign ≡ argument_ends u c cs
  outside_splits (Opens b) e = absurd (let no : belonging (b ∷ []) ≡ splitting = e in cc)
  outside_splits (Closes Round) e = absurd (let no : lists.closing ≡ splitting = e in cc)
  outside_splits (Closes Square) e = absurd (let no : belonging [] ≡ splitting = e in cc)
  outside_splits (Closes Curly) e = absurd (let no : belonging [] ≡ splitting = e in cc)
  outside_splits ClosesStar e = absurd (let no : at_end ≡ splitting = e in cc)
  outside_splits Comma e = refl
  outside_splits Other e = absurd (let no : belonging [] ≡ splitting = e in cc)

  splits_in : (brackets : List Bracket) → sign_in brackets (sign_of t) ≡ splitting → (in_brackets u c cs t brackets ≡ argument_ends u c cs) × (brackets ≡ [])
  splits_in [] e = (outside_splits (sign_of t) e, refl)
  splits_in (b ∷ bs) e = absurd (let no : belonging (brackets_behind (sign_of t) (b ∷ bs)) ≡ splitting = e in cc)

  pub given_splits : u.uses ≡ c.level → sign_in c.brackets (sign_of t) ≡ splitting → (given_to u t (c ∷ cs) ≡ argument_ends u c cs) × (c.brackets ≡ [])
  given_splits e p = (let s = splits_in c.brackets p in (given_same e ∙ s.0, s.1))

module _ (set : Settings) (told : Option Contents) (c : Call) (cs : List Call) (f : Frame) (fs : List Frame) where
  abbrev Moves : List Token → Step → Move → Type 0
  Moves delivered seen mv = Back set told (From set told (opens delivered (c ∷ cs) (f ∷ fs)) seen) mv

  abbrev Tells : List Token → Step → Step → Type 0
  Tells delivered seen st = Acts set told (c ∷ cs) (f ∷ fs) delivered seen st

  -- a token of the argument
  gives_tells : (u : State) (t : Token) (text : List Coming) (more : List Bracket) (depth : ℕ) (behind : List Coming) →
      given_to u t (c ∷ cs) ≡ mach.goes (reading u ((record c { argument = c.argument ++ t ∷ []; brackets = more }) ∷ cs)) → u.uses ≡ depth + c.level → Inside more f.others behind depth text u.coming →
      Fits c.level behind cs fs f.behind → Reads (c ∷ cs) u → Tells u.delivered (step.gives t (inner u (c ∷ cs) text)) (step.gives t u)
  gives_tells u t text more depth behind is e i w r =
      let call : Call = record c { argument = c.argument ++ t ∷ []; brackets = more } in
      let v : State = record u { inside = true } in
      let s : State = inner u (c ∷ cs) text in
      let sound : Sound (machine v (call ∷ cs)) (f ∷ fs) text = record { fits = (depth, behind, e, i, w); inside = refl; reads = λ _. r.reads } in
      let given : leads.given s t ≡ step.goes (inner v (call ∷ cs) text) = ap (λ (b : Bool). leads.given (record s { inside = b }) t) r.inside in
      let P : Move → Type 0 = Moves u.delivered (step.gives t s) in
      subst P (sym is) (
        f ∷ fs,
        text,
        sound,
        λ ending l.
            let Q : Step → Type 0 = λ st. Leads set told (steps st) l.0 in
            (l.0, leads.gives t s l.0 (subst Q (sym given) (leads.goes (inner v (call ∷ cs) text) l.0 l.1)), l.2),
      )

  -- the last argument ends
  complete_tells : (u : State) → u.uses ≡ c.level → f.others ≡ [] → Fits c.level u.coming cs fs f.behind → Reads (c ∷ cs) u → Moves u.delivered (step.done (inner u (c ∷ cs) [])) (call_complete u c cs)
  complete_tells u e last w r =
      let v : State = record u { inside = is_open cs } in
      let s : State = inner u (c ∷ cs) [] in
      let a : Use = with_argument (use_of u.delivered c cs f) c.argument in
      let P : ℕ → Type 0 = λ n. Fits n u.coming cs fs f.behind in
      let b = expanded_tells set told cs fs (plain cs) (λ s. refl) (λ r names. refl) v f.behind c.used (c.arguments ++ c.argument ∷ []) (subst P (sym e) w) (record { inside = refl; reads = r.reads }) in
      under set told (From set told (opens u.delivered cs fs) (uses.expanded (inner v cs f.behind) c.used (c.arguments ++ c.argument ∷ [])))
      (From set told (opens u.delivered (c ∷ cs) (f ∷ fs)) (step.done s)) (call_complete u c cs) (λ ending l.
      let Q : List (List Coming) → Type 0 = λ x. Leads set told (expands a s x) l.0 in
      (finished s, leads.done s, (l.0, subst Q (sym last) (leads.body a s l.0 l.1), l.2))) b

  -- another argument ends
  ends_tells : (u : State) (text : List Coming) (more : List (List Coming)) (behind : List Coming) → u.uses ≡ c.level → c.brackets ≡ [] → f.others ≡ text ∷ more → taken [] u.coming ≡ listed text more behind →
      Fits c.level behind cs fs f.behind → Reads (c ∷ cs) u → Moves u.delivered (step.done (inner u (c ∷ cs) [])) (argument_ends u c cs)
  ends_tells u text more behind e brackets others is w r =
      let call : Call = record c { arguments = c.arguments ++ c.argument ∷ []; argument = [] } in
      let frame : Frame = record { behind = f.behind; others = more } in
      let s : State = inner u (c ∷ cs) [] in
      let a : Use = with_argument (use_of u.delivered c cs f) c.argument in
      let P : List Bracket → Type 0 = λ l. taken l u.coming ≡ listed text more behind in
      let sound : Sound (reading u (call ∷ cs)) (frame ∷ fs) text = record { fits = (zero, behind, omega (arith, e), subst P (sym brackets) is, w); inside = refl; reads = λ _. r.reads } in (
        frame ∷ fs,
        text,
        sound,
        λ ending l.
            let k = list_leads set told a s text more (opens u.delivered cs fs) ending l in
            let Q : List (List Coming) → Type 0 = λ x. Leads set told (expands a s x) k.0 in
            (finished s, leads.done s, (k.0, subst Q (sym others) k.1, k.2)),
      )

  -- a token that is looked at
  file_tells : (u : State) (text : List Coming) (t : Token) (word : Word) → Reads (c ∷ cs) u → Tells u.delivered
      (elim (spec.in_file u) as (λ _. Step) [ true ↦ spec.obeyed set (inner u (c ∷ cs) text) t word | false ↦ broken (inner u (c ∷ cs) text) 201 t ])
      (elim (spec.in_file u) as (λ _. Step) [ true ↦ spec.obeyed set u t word | false ↦ broken u 201 t ])
  file_tells u text t word r =
      let no : spec.in_file u ≡ false = ap (λ (b : Bool). not b && (u.uses == 0)) r.inside in
      let P : Bool → Type 0 = λ b. Tells u.delivered (elim b as (λ _. Step) [ true ↦ spec.obeyed set (inner u (c ∷ cs) text) t word | false ↦ broken (inner u (c ∷ cs) text) 201 t ])
      (elim b as (λ _. Step) [ true ↦ spec.obeyed set u t word | false ↦ broken u 201 t ]) in
      subst P (sym no) (acts_says set told (c ∷ cs) (f ∷ fs) u text 201 t)

  directive_tells : (u : State) (text : List Coming) (t : Token) (word : Word) → Fits u.uses u.coming (c ∷ cs) (f ∷ fs) text → Reads (c ∷ cs) u →
      Tells u.delivered (spec.directive set (inner u (c ∷ cs) text) t word) (spec.directive set u t word)
  directive_tells u text t W.Use w r = use_acts set told (c ∷ cs) (f ∷ fs) u text t w r
  directive_tells u text t (W.Branch word) w r = file_tells u text t (W.Branch word) r
  directive_tells u text t W.Define w r = file_tells u text t W.Define r
  directive_tells u text t W.Undef w r = file_tells u text t W.Undef r
  directive_tells u text t W.Include w r = file_tells u text t W.Include r
  directive_tells u text t W.Alone w r = file_tells u text t W.Alone r
  directive_tells u text t W.NetType w r = file_tells u text t W.NetType r
  directive_tells u text t W.Timescale w r = file_tells u text t W.Timescale r
  directive_tells u text t W.Unsupported w r = file_tells u text t W.Unsupported r

  goes_tells : (u : State) (text : List Coming) → Fits u.uses u.coming (c ∷ cs) (f ∷ fs) text → Reads (c ∷ cs) u → Tells u.delivered (step.goes (inner u (c ∷ cs) text)) (step.goes u)
  goes_tells u text w r = goes_back set told u (c ∷ cs) (f ∷ fs) text (record { fits = w; inside = r.inside; reads = λ _. r.reads })

  kind_tells : (u : State) (text : List Coming) (t : Token) (kind : Kind) → t.kind ≡ kind → (sign_of t ≡ Other → Fits u.uses u.coming (c ∷ cs) (f ∷ fs) text) →
      Tells u.delivered (step.gives t (inner u (c ∷ cs) text)) (step.gives t u) → Reads (c ∷ cs) u → Tells u.delivered (spec.taken set (inner u (c ∷ cs) text) t kind) (spec.taken set u t kind)
  kind_tells u text t K.Directive e stays gives r = directive_tells u text t (said_by t) (stays (sign_kind t K.Directive e)) r
  kind_tells u text t K.Cut e stays gives r = acts_says set told (c ∷ cs) (f ∷ fs) u text 208 t
  kind_tells u text t K.Quote e stays gives r = acts_says set told (c ∷ cs) (f ∷ fs) u text 201 t
  kind_tells u text t K.Line e stays gives r = goes_tells u text (stays (sign_kind t K.Line e)) r
  kind_tells u text t K.Continued e stays gives r = goes_tells u text (stays (sign_kind t K.Continued e)) r
  kind_tells u text t _ e stays gives r = gives

  raw_tells : (u : State) (text : List Coming) (t : Token) → (sign_of t ≡ Other → Fits u.uses u.coming (c ∷ cs) (f ∷ fs) text) →
      Tells u.delivered (step.gives t (inner u (c ∷ cs) text)) (step.gives t u) → Reads (c ∷ cs) u → Tells u.delivered (spec.raw set (inner u (c ∷ cs) text) t) (spec.raw set u t)
  raw_tells u text t stays gives r =
      let P : Bool → Type 0 = λ b. Tells u.delivered (elim b as (λ _. Step) [ true ↦ spec.skipped (inner u (c ∷ cs) text) t t.kind | false ↦ spec.taken set (inner u (c ∷ cs) text) t t.kind ])
      (elim b as (λ _. Step) [ true ↦ spec.skipped u t t.kind | false ↦ spec.taken set u t t.kind ]) in
      subst P (sym r.reads) (kind_tells u text t t.kind refl stays gives r)

  -- the mark that ends an argument
  raw_gives : (u : State) (t : Token) → skips u.files ≡ false → t.kind ≡ K.Mark → spec.raw set u t ≡ step.gives t u
  raw_gives u t e kind = ap (λ (b : Bool). elim b as (λ _. Step) [ true ↦ spec.skipped u t t.kind | false ↦ spec.taken set u t t.kind ]) e ∙ ap (spec.taken set u t) kind

  token_gives : (s : State) (item : Coming) (rest : List Coming) (p : Place_in_list) → place_in c.brackets item ≡ p → IsOutside p → skips s.files ≡ false →
      (t : Token) × (spec.step_at set s (item ∷ rest) ≡ step.gives t (with_coming s rest)) × (sign_in c.brackets (sign_of t) ≡ p)
  token_gives s (Raw t) rest p e o r = (t, raw_gives (with_coming s rest) t r (kind_mark t (not_other c.brackets (sign_of t) p e o)), e)
  token_gives s (Kept t) rest p e o r = (t, refl, e)
  token_gives s FileEnd rest p e o r = absurd (subst IsOutside (sym e) o)
  token_gives s (UseEnd name) rest p e o r = absurd (subst IsOutside (sym e) o)

  done_is : (s : State) (text : List Coming) → s.inside ≡ true → text ≡ [] → next set (inner s (c ∷ cs) text) ≡ step.done (inner s (c ∷ cs) [])
  done_is s text inside empty =
      let w : State = inner s (c ∷ cs) [] in
      ap (λ (x : List Coming). next set (inner s (c ∷ cs) x)) empty ∙ ap (λ (b : Bool). cond {A = Step} b (step.done w) (spec.step set w)) inside

  -- in the text of the call
  head_tells : (s : State) (item : Coming) (rest text behind : List Coming) → s.uses ≡ c.level → Head c.brackets item rest text f.others behind → Fits c.level behind cs fs f.behind → Reads (c ∷ cs) s →
      Tells s.delivered (next set (inner s (c ∷ cs) text)) (spec.step_at set s (item ∷ rest))
  head_tells s item rest text behind e (closes p empty last same) w r =
      let u : State = with_coming s rest in
      let g = token_gives s item rest lists.closing p tt r.reads in
      let is : acted (c ∷ cs) (spec.step_at set s (item ∷ rest)) ≡ call_complete u c cs = ap (acted (c ∷ cs)) g.1 ∙ given_closes u g.0 c cs e g.2 in
      let P : Move → Type 0 = Moves s.delivered (next set (inner s (c ∷ cs) text)) in
      let Q : Step → Type 0 = λ st. Moves s.delivered st (call_complete u c cs) in
      let R : List Coming → Type 0 = λ l. Fits c.level l cs fs f.behind in
      subst P (sym is) (subst Q (sym (done_is s text r.inside empty)) (complete_tells u e last (subst R (sym same) w) (record { inside = r.inside; reads = r.reads })))
  head_tells s item rest text behind e (splits first more p empty others list) w r =
      let u : State = with_coming s rest in
      let g = token_gives s item rest splitting p tt r.reads in
      let h = given_splits u g.0 c cs e g.2 in
      let is : acted (c ∷ cs) (spec.step_at set s (item ∷ rest)) ≡ argument_ends u c cs = ap (acted (c ∷ cs)) g.1 ∙ h.0 in
      let P : Move → Type 0 = Moves s.delivered (next set (inner s (c ∷ cs) text)) in
      let Q : Step → Type 0 = λ st. Moves s.delivered st (argument_ends u c cs) in
      subst P (sym is) (subst Q (sym (done_is s text r.inside empty)) (ends_tells u first more behind e h.1 others list w (record { inside = r.inside; reads = r.reads })))
  head_tells s item rest text behind e (belongs more left p is list) w r =
      let P : List Coming → Type 0 = λ x. Tells s.delivered (next set (inner s (c ∷ cs) x)) (spec.step_at set s (item ∷ rest)) in
      subst P (sym is) (item_tells item p)
    where
      level : s.uses ≡ zero + c.level
      level = omega (arith, e)

      u : State
      u = with_coming s rest

      reads : Reads (c ∷ cs) (with_coming s rest)
      reads = record { inside = r.inside; reads = r.reads }

      gives : (t : Token) → sign_in c.brackets (sign_of t) ≡ belonging more → Tells s.delivered (step.gives t (inner (with_coming s rest) (c ∷ cs) left)) (step.gives t (with_coming s rest))
      gives t q = gives_tells (with_coming s rest) t left more zero behind (given_belongs (with_coming s rest) t c cs more e q) level list w reads

      stays : (t : Token) → sign_in c.brackets (sign_of t) ≡ belonging more → sign_of t ≡ Other → Fits s.uses rest (c ∷ cs) (f ∷ fs) left
      stays t q other =
          let both : belonging more ≡ belonging c.brackets = sym q ∙ ap (sign_in c.brackets) other ∙ sign_other c.brackets in
          let same : more ≡ c.brackets = cc in
          let R : List Bracket → Type 0 = λ l. taken l rest ≡ listed left f.others behind in
          (zero, behind, level, subst R same list, w)

      item_tells : (item : Coming) → place_in c.brackets item ≡ belonging more → Tells s.delivered (next set (inner s (c ∷ cs) (item ∷ left))) (spec.step_at set s (item ∷ rest))
      item_tells (Raw t) q = raw_tells (with_coming s rest) left t (stays t q) (gives t q) reads
      item_tells (Kept t) q = gives t q
      item_tells FileEnd q = absurd (let no : at_end ≡ belonging more = q in cc)
      item_tells (UseEnd name) q = absurd (let no : at_end ≡ belonging more = q in cc)

  -- in a body
  body_tells : (s : State) (depth : ℕ) (coming text behind : List Coming) → s.uses ≡ suc depth + c.level → Inside c.brackets f.others behind (suc depth) text coming → Fits c.level behind cs fs f.behind → Reads (c ∷ cs) s →
      Tells s.delivered (next set (inner s (c ∷ cs) text)) (spec.step_at set s coming)
  body_tells s depth [] text behind e i w r = absurd i
  body_tells s depth (Raw t ∷ rest) text behind e i w r =
      let u : State = with_coming s rest in
      let reads : Reads (c ∷ cs) u = record { inside = r.inside; reads = r.reads } in
      let P : List Coming → Type 0 = λ x. Tells s.delivered (next set (inner s (c ∷ cs) x)) (spec.step_at set s (Raw t ∷ rest)) in
      subst P (sym i.1) (raw_tells u i.0 t (λ _. (suc depth, behind, e, i.2, w)) (gives_tells u t i.0 c.brackets (suc depth) behind (given_deeper u t c cs depth e) e i.2 w reads) reads)
  body_tells s depth (Kept t ∷ rest) text behind e i w r =
      let u : State = with_coming s rest in
      let reads : Reads (c ∷ cs) u = record { inside = r.inside; reads = r.reads } in
      let P : List Coming → Type 0 = λ x. Tells s.delivered (next set (inner s (c ∷ cs) x)) (spec.step_at set s (Kept t ∷ rest)) in
      subst P (sym i.1) (gives_tells u t i.0 c.brackets (suc depth) behind (given_deeper u t c cs depth e) e i.2 w reads)
  body_tells s depth (FileEnd ∷ rest) text behind e i w r = absurd i
  body_tells s depth (UseEnd name ∷ rest) text behind e i w r =
      let u : State = record s { coming = rest; uses = s.uses - 1; macros = marked s.macros name false } in
      let P : List Coming → Type 0 = λ x. Tells s.delivered (next set (inner s (c ∷ cs) x)) (spec.step_at set s (UseEnd name ∷ rest)) in
      let level : s.uses - 1 ≡ depth + c.level = omega (arith, e) in
      subst P (sym i.1) (goes_tells u i.0 (depth, behind, level, i.2, w) (record { inside = r.inside; reads = r.reads }))

  at_depth : (s : State) (depth : ℕ) (coming text behind : List Coming) → s.uses ≡ depth + c.level → Inside c.brackets f.others behind depth text coming → Fits c.level behind cs fs f.behind → Reads (c ∷ cs) s →
      Tells s.delivered (next set (inner s (c ∷ cs) text)) (spec.step_at set s coming)
  at_depth s zero [] text behind e i w r = absurd (let no : false ≡ true = ap (λ (k : Taken). k.closed) i in cc)
  at_depth s zero (item ∷ rest) text behind e i w r = head_tells s item rest text behind (omega (arith, e)) (head_of c.brackets item rest text f.others behind i) w r
  at_depth s (suc depth) coming text behind e i w r = body_tells s depth coming text behind e i w r

  pub open_tells : (s : State) (text : List Coming) → Sound (machine s (c ∷ cs)) (f ∷ fs) text → Tells s.delivered (next set (inner s (c ∷ cs) text)) (spec.step set s)
  open_tells s text sound =
      let w = sound.fits in
      at_depth s w.0 s.coming text w.1 w.2 w.3 w.4 (record { inside = sound.inside; reads = sound.reads refl })
