use Rattle.std.proofs.Common.{List, Option, length, map, ap, sym, subst, ◌∙◌, arith}
use Rattle.std.specs.Option.{unwrap_or}
use Rattle.std.specs.Global.{Vec}
use Rattle.std.proofs.lemmas.List.{length-map}
use Rattle.pl_event.specs.declared.envelopes.Lane.{Lane}
use Rattle.pl_queue.specs.declared.mailbox.OpenRefusal.{OpenRefusal}
use Rattle.pl_queue.specs.declared.mailbox.OpenRefusal.TheVariants.{Memory}
use Rattle.pl_queue.specs.Left.{lanes_of_senders}
use Rattle.pl_queue.specs.Views.{fresh_sends, fresh_takes}
use Rattle.pl_words.specs.Names.{Name}
use Rattle.pl_words.specs.Admissions.{AdmissionView, new_owner_seat}
use Rattle.pl_exec.specs.Opening.{CanOpen, InboxView, IsColumn, Way, ways_in}
use Rattle.pl_exec.proofs.Columns.{sends-in}
use Rattle.pl_exec.proofs.WaysMade.{senders-count}
use Rattle.pl_exec.proofs.opening.open.Goals as goal

pub overflow_cast-count : goal.overflow_cast-count
overflow_cast-count g c =
    let made = c.in_ok-origins.lanes in
    let size = senders-count c.args.ways.items made.items c.in_ok-origins.ensures.lanes in
    omega (arith, size, c.len-count.ensures, made.ok.0, c.requires.few)

pub open-requires-clause-some : goal.open-requires-clause-some
open-requires-clause-some g c =
    let size = senders-count c.args.ways.items c.in_ok-origins.lanes.items c.in_ok-origins.ensures.lanes in
    omega (arith, size, c.requires.some)

pub open-requires-clause-apart : goal.open-requires-clause-apart
open-requires-clause-apart g c = (subst (λ (l : List (List Lane)). CanOpen c.args.capacity l) (sym c.in_ok-origins.ensures.lanes) c.requires.open).apart

-- a mailbox for the ways is within the limits
pub unreachable-requires : goal.unreachable-requires
unreachable-requires g c =
    let can = subst (λ (l : List (List Lane)). CanOpen c.args.capacity l) (sym c.in_ok-origins.ensures.lanes) c.requires.open in
    let other = sym c.in-Err-Limit.field-0-is ∙ c.in-Err-Limit.ensures.refused ∙ ap (λ (o : Option OpenRefusal). unwrap_or o Memory) can.within in cc

-- the taker has the lanes of all ways
pub returns-clause-own : goal.returns-clause-own
returns-clause-own g c =
    let name = ap (λ (a : AdmissionView). a.name) c.in_ok-inbox.ensures.admission in
    record {
      taker = subst (λ (m : g.row.M.Denot). g.M.Mailbox.ends.is_taker m c.in-Ok.opened.2) (sym c.in_ok-inbox.ensures.mailbox) c.in-Ok.ensures.taker.0;
      takes = c.in-Ok.ensures.taker.1 ∙ ap (λ (senders : List (List Lane)). fresh_takes (lanes_of_senders senders)) c.in_ok-origins.ensures.lanes;
      owner = c.in_ok-admission.ensures.owner ∙ ap (λ (n : Name). new_owner_seat n) (sym name);
    }

pub returns-clause-column : goal.returns-clause-column
returns-clause-column g c =
    let name = ap (λ (a : AdmissionView). a.name) c.in_ok-inbox.ensures.admission in
    let ways = ways_in c.args.ways.items in
    let made = c.in_ok-origins.lanes in
    let lanes = c.in_ok-origins.ensures.lanes in
    subst (λ (inbox : InboxView g.row.M.Denot). IsColumn g.M.Mailbox.ends inbox ways (record { origins = c.in_ok-origins.origins.items; senders = c.in-Ok.opened.1.items; seats = c.in_ok-admission.seats.items }))
    (λ i. record { mailbox = sym c.in_ok-inbox.ensures.mailbox i; name = sym name i })
    (record {
      origins = c.in_ok-origins.ensures.origins;
      senders = c.in-Ok.ensures.senders.0;
      sends = c.in-Ok.ensures.senders.1 ∙ sends-in (λ (s : Vec Lane). s.items) made.items ∙ ap (λ (l : List (List Lane)). map fresh_sends l) lanes ∙ sym (sends-in (λ (w : Way). w.lanes) ways);
      count = omega (arith, c.in_ok-admission.ensures.seats.0, length-map made.items (λ (sender : Vec Lane). sender.items), ap (λ (l : List (List Lane)). length l) lanes, length-map ways (λ (w : Way). w.lanes));
      seats = c.in_ok-admission.ensures.seats.1;
    })
