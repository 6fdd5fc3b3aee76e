-- Each level comes to two calls: the level, then the level in its direction.
use Rattle.std.proofs.Common.{◌+◌, ◌-◌, ◌*◌}
use Rattle.lk3.proofs.+lk3_level_lk3_level_dir.Given as goal

abbrev pub decreases-lk3_level : goal.decreases-lk3_level
decreases-lk3_level l = 2 * (50 - l.level) + 1

abbrev pub decreases-lk3_level_dir : goal.decreases-lk3_level_dir
decreases-lk3_level_dir l = 2 * (50 - l.level)
