use Rattle.std.proofs.Common.{◌≡◌, ◌≤◌, length, Some}
use Rattle.frame_texts.specs.Frames.{home_from}
use Rattle.typing_names.specs.Homes.{home_at}
use Rattle.typing_names.proofs.source_names.SourceNames.path_end.Given as goal

abbrev pub invariant-loop-left : goal.invariant-loop-left
invariant-loop-left l = record {
  inside : l.end ≤ length l.frame.path;
  home : home_from l.self.tree.now l.self.names.now l.left (home_at l.frame (Some l.end)) l.inner l.scope ≡ home_from l.self.tree.now l.self.names.now (length l.self.names.now.scopes) (home_at l.frame (Some (length l.frame.path))) l.frame.scope l.scope;
}

abbrev pub decreases-loop-left : goal.decreases-loop-left
decreases-loop-left l = l.left
