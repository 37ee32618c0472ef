-- What a process is told to assign hangs on its reads alone.
use Rattle.std.proofs.Common.{◌≡◌, Bool, true, false, List, None, refl, inl, inr}
use Rattle.row_machine.specs.Valuation.{Place, Valuation, Changes, Member, has, changed, only_if, put_each, NoneWrites}
use Rattle.row_machine.specs.Machine.{Process, Machine, Started, told}
use Rattle.row_machine.specs.Order.{WritesOwn, WellWritten, follows}
use Rattle.row_machine.proofs.Basics.{follows_writer}
use Rattle.row_machine.proofs.Writes.{Within, unwritten, written, writer}

pub only_if-none : (b : Bool) (c : Changes) (q : Place) → c q ≡ None → only_if b c q ≡ None
only_if-none true c q e = e
only_if-none false c q e = refl

pub only_if-same : (b : Bool) (c c' : Changes) (q q' : Place) → c q ≡ c' q' → only_if b c q ≡ only_if b c' q'
only_if-same true c c' q q' e = e
only_if-same false c c' q q' e = refl

abbrev pub of_process : Process → List Place
of_process p = p.writes

module _ (d : Machine) (own : (p : Process) → Member d.combs p → WritesOwn p) (s : Started) where
  own-within : (v : Valuation) → Within of_process (told s v) d.combs
  own-within v p m q n = only_if-none (s p) (p.assigns v) q (own p m v q n)

  -- a bit that nobody writes
  pub nobody_writes : (v base : Valuation) (q : Place) → NoneWrites of_process d.combs q → put_each (told s v) d.combs base q ≡ base q
  nobody_writes v base q n = unwritten of_process (told s v) d.combs (own-within v) base q n

module _ (d : Machine) (well : WellWritten d) (s : Started) where
  pub told-within : (v : Valuation) → Within of_process (told s v) d.combs
  told-within = own-within d (λ p m. (well.honest p m).within) s

  pub at_rest : (v base : Valuation) (q : Place) → NoneWrites of_process d.combs q → put_each (told s v) d.combs base q ≡ base q
  at_rest = nobody_writes d (λ p m. (well.honest p m).within) s

  -- a bit that p writes
  pub at_writer : (v base : Valuation) (p : Process) → Member d.combs p → (q : Place) → has p.writes q ≡ true → put_each (told s v) d.combs base q ≡ changed (told s v p q) (base q)
  at_writer v base p m q h = written of_process (told s v) d.combs (told-within v) well.one_writer base p m q h

  -- the valuations are alike at each bit that p reads, if they are at what the processes write that p follows
  pub same_told : (v u : Valuation) (p : Process) → Member d.combs p
      → ((r : Place) → NoneWrites of_process d.combs r → v r ≡ u r)
      → ((q : Process) → Member d.combs q → follows p q ≡ true → (r : Place) → has q.writes r ≡ true → v r ≡ u r)
      → (q : Place) → told s v p q ≡ told s u p q
  same_told v u p m rest before q =
      only_if-same (s p) (p.assigns v) (p.assigns u) q q ((well.honest p m).by_reads v u reads q)
    where
      reads : (r : Place) → has p.reads r ≡ true → v r ≡ u r
      reads r h =
          elim (writer of_process d.combs r) [
            | inl w ↦ before w.0 w.1 (follows_writer p w.0 r h w.2) r w.2
            | inr n ↦ rest r n
          ]
