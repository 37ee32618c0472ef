-- The first of some paths that isn't absent.
use Rattle.std.proofs.Common.{◌≡◌, ℕ, zero, suc, ◌+◌, ◌<◌, List, [], ◌∷◌, length, drop, get_or, replicate, slice_get, Option, Some, None, refl, sym, ap, ◌∙◌, arith}
use Rattle.std.proofs.lemmas.List.{length-replicate}
use Rattle.std.proofs.lemmas.Option.{slice_get-get_or}
use Rattle.sv_source.specs.Loading.{Contents}
use Rattle.sv_macro.specs.Including.{Held, first_held}
use Rattle.sv_preproc.specs.Searches.{Finds}

pub held_at : (contents : Contents) (paths : List (List ℕ)) (i : ℕ) (p bytes : List ℕ) → i < length paths → p ≡ get_or paths i p → contents p ≡ Some bytes →
    first_held contents (drop i paths) ≡ Some (record { path = p; bytes = bytes })
held_at contents [] i p bytes within e h = absurd (omega arith)
held_at contents (q ∷ ps) zero p bytes within e h =
    let here : contents q ≡ Some bytes = ap contents (sym e) ∙ h in
    rw (e, here) refl
held_at contents (q ∷ ps) (suc i) p bytes within e h = held_at contents ps i p bytes (omega arith) e h

-- a file that is held stands at one of the paths
listed_in : (path : List ℕ) (paths : List (List ℕ)) (bytes : Option (List ℕ)) (rest : Option Held) (file : Held) →
    (rest ≡ Some file → (i : ℕ) × (slice_get paths i ≡ Some file.path)) →
    (elim bytes as (λ _. Option Held) [ None ↦ rest | Some b ↦ Some (record { path = path; bytes = b }) ]) ≡ Some file → (i : ℕ) × (slice_get (path ∷ paths) i ≡ Some file.path)
listed_in path paths None rest file more e = (suc (more e).0, (more e).1)
listed_in path paths (Some b) rest file more e = (0, let same : record { path = path; bytes = b } ≡ file = cc in ap (λ (h : Held). Some h.path) same)

pub listed_held : (contents : Contents) (paths : List (List ℕ)) (file : Held) → first_held contents paths ≡ Some file → (i : ℕ) × (slice_get paths i ≡ Some file.path)
listed_held contents [] file e = absurd (let no : None ≡ Some file = e in cc)
listed_held contents (path ∷ paths) file e = listed_in path paths (contents path) (first_held contents paths) file (listed_held contents paths file) e

-- what a search finds where the files are told
pub finds_told : (contents : Contents) (paths : List (List ℕ)) (held : Option Held) → first_held contents paths ≡ held → Finds (Some contents) paths held
finds_told contents paths held is = record {
  first = λ others e. let same : others ≡ contents = cc in ap (λ (c : Contents). first_held c paths) same ∙ is;
  listed = λ file e. listed_held contents paths file (is ∙ e);
}

-- a file at one of the paths
pub finds_at : (told : Option Contents) (paths : List (List ℕ)) (i : ℕ) (p bytes : List ℕ) → i < length paths → p ≡ get_or paths i p →
    ((contents : Contents) → told ≡ Some contents → first_held contents paths ≡ Some (record { path = p; bytes = bytes })) → Finds told paths (Some (record { path = p; bytes = bytes }))
finds_at told paths i p bytes within e first = record {
  first = first;
  listed = λ file f. (i, let same : record { path = p; bytes = bytes } ≡ file = cc in slice_get-get_or paths i p within ∙ ap Some (sym e) ∙ ap (λ (h : Held). Some h.path) same);
}

-- a file that is longer than the limit, where it isn't told one of zeros
pub finds_long : (told : Option Contents) (paths : List (List ℕ)) (limit i : ℕ) (p : List ℕ) → i < length paths → p ≡ get_or paths i p →
    ((contents : Contents) → told ≡ Some contents → (held : Held) × (first_held contents paths ≡ Some held) × (limit < length held.bytes)) →
    (held : Held) × Finds told paths (Some held) × (limit < length held.bytes)
finds_long None paths limit i p within e long = (
  record { path = p; bytes = replicate (limit + 1) 0 },
  finds_at None paths i p (replicate (limit + 1) 0) within e (λ contents no. absurd (let none : None ≡ Some contents = no in cc)),
  omega (arith, length-replicate {A = ℕ} (limit + 1) 0),
)
finds_long (Some contents) paths limit i p within e long =
    let h = long contents refl in
    (h.0, finds_told contents paths (Some h.0) h.1, h.2)
