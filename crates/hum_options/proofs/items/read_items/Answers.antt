use Rattle.std.proofs.Common.{arith}
use Rattle.hum_options.proofs.Listing.{listing_begins, next_part, left_behind, none_behind}
use Rattle.hum_options.proofs.Listing.{listing_refused, listing_full, listing_goes_on, listing_ends}
use Rattle.hum_options.proofs.items.read_items.Goals as goal

pub loop-items-init : goal.loop-items-init
loop-items-init g c = rw c.new-items.ensures.items (listing_begins c.args.text.now)

pub returns-in_default : goal.returns-in_default
returns-in_default g c =
    listing_refused (next_part c.loop-items.rest.now c.loop-items.invariant c.cut.ensures.front c.cut.ensures.remainder)
    (rw c.in_default.is at c.in_ok-item.ensures)

pub returns-then-len-ge-MOST_ITEMS : goal.returns-then-len-ge-MOST_ITEMS
returns-then-len-ge-MOST_ITEMS g c =
    listing_full (next_part c.loop-items.rest.now c.loop-items.invariant c.cut.ensures.front c.cut.ensures.remainder)
    (omega (arith, c.if-len-ge-MOST_ITEMS.true, c.loop-items.items.ok.0))

pub returns-in_default-behind : goal.returns-in_default-behind
returns-in_default-behind g c =
    let next = next_part c.loop-items.rest.now c.loop-items.invariant c.cut.ensures.front c.cut.ensures.remainder in
    let last = rw (none_behind c.cut.result.1.now c.in_default-behind.len_below) at next in
    rw c.in_ok-push.ensures.items (listing_ends
    (listing_goes_on last c.in-Some.item (rw c.in-Some.is at c.in_ok-item.ensures)
    (omega (arith, c.if-len-ge-MOST_ITEMS.false, c.loop-items.items.ok.0))))

pub loop-items-smaller : goal.loop-items-smaller
loop-items-smaller g c =
    let next = next_part c.loop-items.rest.now c.loop-items.invariant c.cut.ensures.front c.cut.ensures.remainder in
    rw (← left_behind c.cut.result.1.now c.in-len1-up.len_at_least)
    (omega (arith, next.count, c.loop-items.invariant.count))

pub loop-items-preserved : goal.loop-items-preserved
loop-items-preserved g c =
    let next = next_part c.loop-items.rest.now c.loop-items.invariant c.cut.ensures.front c.cut.ensures.remainder in
    rw (← left_behind c.cut.result.1.now c.in-len1-up.len_at_least, c.in_ok-push.ensures.items)
    (listing_goes_on next c.in-Some.item (rw c.in-Some.is at c.in_ok-item.ensures)
    (omega (arith, c.if-len-ge-MOST_ITEMS.false, c.loop-items.items.ok.0)))
