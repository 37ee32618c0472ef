-- How many bits processes may write.
use Rattle.std.proofs.Common.{◌≡◌, ◌<◌, ◌≤◌, ℕ, ◌+◌, true, false, List, [], ◌∷◌, ◌++◌, length, drop, slice_index_or, refl, ap, sym, ◌∙◌, true≢false, append-nil, arith}
use Rattle.std.specs.Prelude.{flat_map, filter}
use Rattle.row_machine.specs.Machine as M
use Rattle.row_machine.specs.Rounds.{written_bits}
use Rattle.v_tree.specs.declared.items.VModule.{VModule}
use Rattle.v_meaning.specs.Machine.{comb_of, machine_of, writes_of, places_from}
use Rattle.v_meaning.specs.Modules.{Parts, Process, Starts, always_on, on_change, on_edges}
use Rattle.v_meaning.specs.Scopes.{Scope, Use}
use Rattle.v_meaning.specs.Statements.{covered}
use Rattle.v_processes.specs.declared.process.Does.{Does}
use Rattle.v_processes.specs.declared.process.Does.TheVariants as D
use Rattle.v_processes.specs.declared.process.Proc.{Proc}
use Rattle.v_processes.specs.Processes.{does_in, process_at, processes_at}
use Rattle.v_drives.specs.Designs.{at_edges, bits_written, process_made}
use Rattle.v_drives.proofs.Numbering as N

-- the bits of an `always` at edges don't count, those of any other process do
no-comb : (own : ℕ) (d : Parts) (s : Starts) (p : Process) → at_edges s ≡ true → 0 ≡ written_bits (comb_of own d s p)
no-comb own d always_on p h = absurd (true≢false (sym h))
no-comb own d on_change p h = absurd (true≢false (sym h))
no-comb own d (on_edges es) p h = refl

one-comb : (own : ℕ) (d : Parts) (s : Starts) (p : Process) → at_edges s ≡ false → length (writes_of own d p) ≡ written_bits (comb_of own d s p)
one-comb own d always_on p h = omega arith
one-comb own d on_change p h = omega arith
one-comb own d (on_edges es) p h = absurd (true≢false h)

written-append : (xs ys : List M.Process) → written_bits (xs ++ ys) ≡ written_bits xs + written_bits ys
written-append [] ys = omega arith
written-append (x ∷ xs) ys = let go = written-append xs ys in omega (arith, go)

alone : (own : ℕ) (d : Parts) (p : Process) → written_bits (comb_of own d p.starts p) ≡ bits_written own d (p ∷ [])
alone own d p = ap written_bits (sym (append-nil (comb_of own d p.starts p)))

starts-same : (d : Does) (sc sc' : Scope) → at_edges (does_in d sc).starts ≡ at_edges (does_in d sc').starts
starts-same (D.Assign to value) sc sc' = refl
starts-same (D.Star body) sc sc' = refl
starts-same (D.Edges edges body) sc sc' = refl
starts-same (D.Into port value) sc sc' = refl
starts-same (D.From to port) sc sc' = refl

pub no-bits : (own : ℕ) (d : Parts) (p : Process) → at_edges p.starts ≡ true → 0 ≡ bits_written own d (p ∷ [])
no-bits own d p h = no-comb own d p.starts p h ∙ alone own d p

pub some-bits : (own : ℕ) (d : Parts) (p : Process) (us : List Use) (n : ℕ) → at_edges p.starts ≡ false → us ≡ process_made false p → n ≡ length (filter (covered us) (places_from 0 d.signals)) → n ≡ bits_written own d (p ∷ [])
some-bits own d p us n h is count =
    count ∙ ap (λ (xs : List Use). length (filter (covered xs) (places_from 0 d.signals))) is ∙ one-comb own d p.starts p h ∙ alone own d p

pub bits-on : (own : ℕ) (d : Parts) (ms : List VModule) (ps : List Proc) (i n m : ℕ) (x : Proc) → i < length ps → m ≡ bits_written own d (process_at ms (slice_index_or ps i x) ∷ [])
    → n + bits_written own d (processes_at ms (drop i ps)) ≡ bits_written own d (processes_at ms ps) → (n + m) + bits_written own d (processes_at ms (drop (i + 1) ps)) ≡ bits_written own d (processes_at ms ps)
bits-on own d ms ps i n m x h is before =
    let p = process_at ms (slice_index_or ps i x) in
    let rest = processes_at ms (drop (i + 1) ps) in
    let front : bits_written own d (processes_at ms (drop i ps)) ≡ bits_written own d (p ∷ rest) = ap (λ (xs : List Proc). bits_written own d (processes_at ms xs)) (N.at-front ps i x h) in
    let parts : bits_written own d (p ∷ rest) ≡ written_bits (comb_of own d p.starts p) + bits_written own d rest = written-append (comb_of own d p.starts p) (flat_map (λ (q : Process). comb_of own d q.starts q) rest) in
    let one = alone own d p in
    omega (arith, is, before, front, parts, one)

pub bits-all : (own : ℕ) (d : Parts) (ms : List VModule) (ps : List Proc) (i n : ℕ) → length ps ≤ i → n + bits_written own d (processes_at ms (drop i ps)) ≡ bits_written own d (processes_at ms ps)
    → processes_at ms ps ≡ d.processes → n ≡ written_bits (machine_of own d).combs
bits-all own d ms ps i n h before is =
    let none : bits_written own d (processes_at ms (drop i ps)) ≡ 0 = ap (λ (xs : List Proc). bits_written own d (processes_at ms xs)) (N.none-left ps i h) in
    let all : bits_written own d (processes_at ms ps) ≡ written_bits (machine_of own d).combs = ap (bits_written own d) is in
    omega (arith, none, before, all)
