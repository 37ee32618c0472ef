-- Each expansion comes to one outcome.
use Rattle.std.proofs.Common.{◌≡◌, ℕ, ◌^◌, ◌≤◌, List, [], ◌∷◌, ◌++◌, length, Option, Some, refl, sym, ap, ◌∙◌, subst}
use Rattle.sv_source.specs.Loading.{Contents}
use Rattle.sv_source.specs.declared.refusal.Refusal.{Refusal}
use Rattle.sv_macro.specs.Including.{Held}
use Rattle.sv_preproc.specs.States as spec
use Rattle.sv_preproc.specs.States.{State, Step}
use Rattle.sv_preproc.specs.Machine as mach
use Rattle.sv_preproc.specs.Machine.{Machine, Move, machine, plain, move, Runs}
use Rattle.sv_preproc.specs.Searches.{Ending, finished, stopped, failed, Finds, found}
use Rattle.sv_preproc.specs.Runs.{Outcome, expands, refused, start, end_token, Comes, HasOutcome}
use Rattle.sv_preproc.specs.declared.settings.Settings.{Settings}
use Rattle.sv_preproc.specs.declared.turn.Search.{Search}
use Rattle.sv_preproc.proofs.MachineEnds.{IsOutcome, run_ends}

-- what a search finds is told
one_found : (contents : Contents) (paths : List (List ℕ)) (a b : Option Held) → Finds (Some contents) paths a → Finds (Some contents) paths b → a ≡ b
one_found contents paths a b f g = sym (f.first contents refl) ∙ g.first contents refl

module _ (set : Settings) (contents : Contents) where
  abbrev Run : Machine → Ending → Type 0
  Run = Runs set (Some contents)

  -- what a machine comes to by its move
  data ByMove (e : Ending) : Move → Type 0 where
    by_going : (n : Machine) → Run n e → ByMove e (mach.goes n)
    by_ending : (n : Machine) → e ≡ finished n.state → ByMove e (mach.done n)
    by_breaking : (r : Refusal) (names : List (List ℕ)) → e ≡ stopped r names → ByMove e (mach.breaks r names)
    by_loading : (n o : Machine) (search : Search) (held : Option Held) → Finds (Some contents) search.paths held → plain n.calls (found search n.state held) ≡ mach.goes o → Run o e → ByMove e (mach.looks search n)
    by_losing : (n : Machine) (search : Search) (held : Option Held) (r : Refusal) (names : List (List ℕ)) → Finds (Some contents) search.paths held → found search n.state held ≡ spec.breaks r names → e ≡ stopped r names → ByMove e (mach.looks search n)

  by_move : (m : Machine) (e : Ending) → IsOutcome e → Run m e → ByMove e (move set m)
  by_move _ _ o (mach.runs_on m n e is r) = subst (ByMove e) (sym is) (by_going n r)
  by_move _ _ o (mach.ends m n is) = subst (ByMove (finished n.state)) (sym is) (by_ending n refl)
  by_move _ _ o (mach.stops m r names is) = subst (ByMove (stopped r names)) (sym is) (by_breaking r names refl)
  by_move _ _ o (mach.loads m n p search held e is finds opened r) = subst (ByMove e) (sym is) (by_loading n p search held finds opened r)
  by_move _ _ o (mach.loses m n search held r names is finds lost) = subst (ByMove (stopped r names)) (sym is) (by_losing n search held r names finds lost refl)
  by_move _ _ o (mach.fails m n search path is tried) = absurd o

  from_goes : (n : Machine) (b : Ending) → ByMove b (mach.goes n) → Run n b
  from_goes _ b (by_going n y) = y

  from_done : (n : Machine) (b : Ending) → ByMove b (mach.done n) → b ≡ finished n.state
  from_done _ b (by_ending n e) = e

  from_breaks : (r : Refusal) (names : List (List ℕ)) (b : Ending) → ByMove b (mach.breaks r names) → b ≡ stopped r names
  from_breaks _ _ b (by_breaking r names e) = e

  -- a file was found, or none
  data Looked (b : Ending) (n : Machine) (search : Search) (held : Option Held) : Type 0 where
    loaded : (o : Machine) → plain n.calls (found search n.state held) ≡ mach.goes o → Run o b → Looked b n search held
    lost : (r : Refusal) (names : List (List ℕ)) → found search n.state held ≡ spec.breaks r names → b ≡ stopped r names → Looked b n search held

  from_looks : (n : Machine) (search : Search) (b : Ending) (held : Option Held) → Finds (Some contents) search.paths held → ByMove b (mach.looks search n) → Looked b n search held
  from_looks _ _ b held f (by_loading n o search other g opened y) =
      let P : Option Held → Type 0 = Looked b n search in subst P (one_found contents search.paths other held g f) (loaded o opened y)
  from_looks _ _ b held f (by_losing n search other r names g gone e) =
      let P : Option Held → Type 0 = Looked b n search in subst P (one_found contents search.paths other held g f) (lost r names gone e)

  both_loaded : (a b : Ending) (n o : Machine) (search : Search) (held : Option Held) → plain n.calls (found search n.state held) ≡ mach.goes o → (Run o b → a ≡ b) → Looked b n search held → a ≡ b
  both_loaded a b n o search held opened again (loaded p other y) =
      let same : p ≡ o = (let both : mach.goes p ≡ mach.goes o = sym other ∙ opened in cc) in
      again (subst (λ (m : Machine). Run m b) same y)
  both_loaded a b n o search held opened again (lost r names gone e) =
      absurd (let both : mach.breaks r names ≡ mach.goes o = sym (ap (plain n.calls) gone) ∙ opened in cc)

  both_lost : (b : Ending) (n : Machine) (search : Search) (held : Option Held) (r : Refusal) (names : List (List ℕ)) → found search n.state held ≡ spec.breaks r names → Looked b n search held → stopped r names ≡ b
  both_lost b n search held r names gone (loaded p other y) =
      absurd (let both : mach.breaks r names ≡ mach.goes p = sym (ap (plain n.calls) gone) ∙ other in cc)
  both_lost b n search held r names gone (lost q others too e) =
      let same : spec.breaks r names ≡ spec.breaks q others = sym gone ∙ too in
      let here : stopped r names ≡ stopped q others = cc in
      here ∙ sym e

  pub one_ending : (m : Machine) (a b : Ending) → IsOutcome a → IsOutcome b → Run m a → Run m b → a ≡ b
  one_ending _ _ b oa ob (mach.runs_on m n a is r) y = one_ending n a b oa ob r (from_goes n b (subst (ByMove b) is (by_move m b ob y)))
  one_ending _ _ b oa ob (mach.ends m n is) y = sym (from_done n b (subst (ByMove b) is (by_move m b ob y)))
  one_ending _ _ b oa ob (mach.stops m r names is) y = sym (from_breaks r names b (subst (ByMove b) is (by_move m b ob y)))
  one_ending _ _ b oa ob (mach.loads m n o search held a is finds opened r) y =
      both_loaded a b n o search held opened (λ x. one_ending o a b oa ob r x) (from_looks n search b held finds (subst (ByMove b) is (by_move m b ob y)))
  one_ending _ _ b oa ob (mach.loses m n search held r names is finds gone) y =
      both_lost b n search held r names gone (from_looks n search b held finds (subst (ByMove b) is (by_move m b ob y)))
  one_ending _ _ b oa ob (mach.fails m n search path is tried) y = absurd oa

pub only_outcome : (set : Settings) (contents : Contents) (a b : Outcome) → Comes set (Some contents) a → Comes set (Some contents) b → a ≡ b
only_outcome set contents (expands ts names) (expands us others) x y =
    let ends : finished x.last ≡ finished y.last = one_ending set contents (machine (start set) []) (finished x.last) (finished y.last) tt tt x.runs y.runs in
    let last : x.last ≡ y.last = cc in
    let tokens : ts ≡ us = x.tokens ∙ ap (λ (s : State). s.delivered ++ end_token s.ending ∷ []) last ∙ sym y.tokens in
    let files : names ≡ others = x.files ∙ ap (λ (s : State). s.names) last ∙ sym y.files in
    λ i. expands (tokens i) (files i)
only_outcome set contents (refused r names) (refused q others) x y =
    let ends : stopped r names ≡ stopped q others = one_ending set contents (machine (start set) []) (stopped r names) (stopped q others) tt tt x y in cc
only_outcome set contents (expands ts names) (refused q others) x y =
    absurd (let ends : finished x.last ≡ stopped q others = one_ending set contents (machine (start set) []) (finished x.last) (stopped q others) tt tt x.runs y in cc)
only_outcome set contents (refused r names) (expands us others) x y =
    absurd (let ends : stopped r names ≡ finished y.last = one_ending set contents (machine (start set) []) (stopped r names) (finished y.last) tt tt x y.runs in cc)

outcome_of : (set : Settings) (contents : Contents) (e : Ending) → IsOutcome e → Runs set (Some contents) (machine (start set) []) e → HasOutcome set contents
outcome_of set contents (finished s) o r = record {
  outcome = expands (s.delivered ++ end_token s.ending ∷ []) s.names;
  comes = record { last = s; runs = r; tokens = refl; files = refl };
  only = λ other x. only_outcome set contents other (expands (s.delivered ++ end_token s.ending ∷ []) s.names) x (record { last = s; runs = r; tokens = refl; files = refl });
}
outcome_of set contents (stopped q names) o r = record {
  outcome = refused q names;
  comes = r;
  only = λ other x. only_outcome set contents other (refused q names) x r;
}
outcome_of set contents (failed path) o r = absurd o

pub has_outcome : (set : Settings) → length set.files ≤ 2 ^ 30 → (contents : Contents) → HasOutcome set contents
has_outcome set few contents = (let e = run_ends set few contents in outcome_of set contents e.ending e.outcome e.runs)
