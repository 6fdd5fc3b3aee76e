use native.Mathlib.Omega.{arith}
use Rattle.refusals.proofs.SizeLaws.{few_stops, many_stops, no_near, many_near, many_alpha, not_told, is_told}
use Rattle.refusals.proofs.sizes.check_sizes.Goals as goal

pub returns-then-n-lt2 : goal.returns-then-n-lt2
returns-then-n-lt2 c =
    let a = c.args in
    few_stops a.n a.k a.ka a.told c.if-n-lt2.true

pub returns-then-n-gt4096 : goal.returns-then-n-gt4096
returns-then-n-gt4096 c =
    let a = c.args in
    many_stops a.n a.k a.ka a.told c.if-n-gt4096.true

pub returns-then-k-lt1 : goal.returns-then-k-lt1
returns-then-k-lt1 c =
    let a = c.args in
    no_near a.n a.k a.ka a.told (omega (arith, c.if-n-lt2.false)) (omega (arith, c.if-n-gt4096.false)) c.if-k-lt1.true

pub returns-then-k-gt20 : goal.returns-then-k-gt20
returns-then-k-gt20 c =
    let a = c.args in
    many_near a.n a.k a.ka a.told (omega (arith, c.if-n-lt2.false)) (omega (arith, c.if-n-gt4096.false)) c.if-k-gt20.true

pub returns-then-ka-gt5 : goal.returns-then-ka-gt5
returns-then-ka-gt5 c =
    let a = c.args in
    many_alpha a.n a.k a.ka a.told (omega (arith, c.if-n-lt2.false)) (omega (arith, c.if-n-gt4096.false)) (omega (arith, c.if-k-lt1.false)) (omega (arith, c.if-k-gt20.false)) c.if-ka-gt5.true

pub returns : goal.returns
returns c =
    let a = c.args in
    is_told a.n a.k a.ka a.told (omega (arith, c.if-n-lt2.false)) (omega (arith, c.if-n-gt4096.false)) (omega (arith, c.if-k-lt1.false)) (omega (arith, c.if-k-gt20.false)) (omega (arith, c.if-ka-gt5.false)) c.if-not-told.false

pub returns-then-not-told : goal.returns-then-not-told
returns-then-not-told c =
    let a = c.args in
    not_told a.n a.k a.ka a.told (omega (arith, c.if-n-lt2.false)) (omega (arith, c.if-n-gt4096.false)) (omega (arith, c.if-k-lt1.false)) (omega (arith, c.if-k-gt20.false)) (omega (arith, c.if-ka-gt5.false)) c.if-not-told.true
