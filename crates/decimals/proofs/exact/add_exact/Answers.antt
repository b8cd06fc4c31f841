-- `decimals::exact::add_exact` adds the sign, the whole part, the point and the places in turn. Assumes nothing.
use Prim.Native.Nat.{◌+◌, ◌≤◌}
use native.Mathlib.Omega.{arith}
use Rattle.listing.proofs.Decimal.{at_most}
use Rattle.listing.proofs.Adding.{both}
use Rattle.decimals.specs.Magnitude.{whole_of, rest_of, size_in}
use Rattle.decimals.proofs.Spelling.{sign_most, places_most, in_parts}
use Rattle.decimals.proofs.exact.add_exact.Goals as goal

pub add-c-requires : goal.add-c-requires
add-c-requires c =
    let a = c.args in
    omega (arith, sign_most a.neg (size_in a.m), at_most 32 (whole_of a.m.whole), c.add_sign-a.ensures.moved, c.add_whole-b.ensures.moved)

pub add_places-requires : goal.add_places-requires
add_places-requires c =
    let a = c.args in
    -- the sign and the digits before the point have at most 33 characters
    let to_point : c.add_whole-b.result ≤ a.place + 33 =
    omega (arith, sign_most a.neg (size_in a.m), at_most 32 (whole_of a.m.whole), c.add_sign-a.ensures.moved, c.add_whole-b.ensures.moved) in
    (c.requires.0.rest, omega (arith, to_point, c.add-c.ensures.moved))

pub returns-clause-adds : goal.returns-clause-adds
returns-clause-adds c =
    let a = c.args in
    let m = a.m in
    in_parts a.neg m.whole.high m.whole.low m.rest.high m.rest.low c.requires.0.rest.high c.requires.0.rest.low
    (both c.add_sign-a.ensures (both c.add_whole-b.ensures (both c.add-c.ensures c.add_places.ensures)))

pub returns-clause-upper_bound : goal.returns-clause-upper_bound
returns-clause-upper_bound c =
    let a = c.args in
    let to_point : c.add_whole-b.result ≤ a.place + 33 =
    omega (arith, sign_most a.neg (size_in a.m), at_most 32 (whole_of a.m.whole), c.add_sign-a.ensures.moved, c.add_whole-b.ensures.moved) in
    omega (arith, to_point, places_most 88 (rest_of a.m.rest), c.add-c.ensures.moved, c.add_places.ensures.moved)
