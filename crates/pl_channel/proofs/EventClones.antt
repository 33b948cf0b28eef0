-- A clone of an event is that event.
use Rattle.std.proofs.Common.{◌≡◌, ℕ, List, refl, ap, ap₂}
use Rattle.pl_event.specs.declared.events.Event.{Event}
use Rattle.pl_event.specs.declared.events.Event.TheVariants as event
use Rattle.pl_event.specs.declared.events.Message.{Message}
use Rattle.pl_event.specs.declared.events.Message.TheVariants as message
use Rattle.pl_event.specs.declared.events.Command.{Command}
use Rattle.pl_event.specs.declared.events.Command.TheVariants as command
use Rattle.pl_event.specs.declared.events.Reply.{Reply}
use Rattle.pl_event.specs.declared.events.Reply.TheVariants as reply
use Rattle.pl_event.specs.declared.events.Caught.{Caught}
use Rattle.pl_event.specs.declared.events.Fault.{Fault}
use Rattle.pl_event.specs.contracts.events.EventClone as event_clone
use Rattle.pl_event.specs.contracts.events.MessageClone as message_clone
use Rattle.pl_event.specs.contracts.events.CommandClone as command_clone
use Rattle.pl_event.specs.contracts.events.ReplyClone as reply_clone

clone-command : (x y : Command) → (command_clone.TheImpl.ghosts).is_clone x y → y ≡ x
clone-command command.Ping command.Ping same = refl
clone-command command.Quit command.Quit same = refl
clone-command (command.Echo a) (command.Echo b) same = ap (λ (t : List ℕ). command.Echo t) same
clone-command (command.Add k a) (command.Add l b) same = ap₂ (λ (t : List ℕ) (n : ℕ). command.Add t n) same.0 same.1
clone-command (command.Get k) (command.Get l) same = ap (λ (t : List ℕ). command.Get t) same
clone-command _ _ same = absurd same

clone-reply : (x y : Reply) → (reply_clone.TheImpl.ghosts).is_clone x y → y ≡ x
clone-reply reply.Pong reply.Pong same = refl
clone-reply (reply.Text a) (reply.Text b) same = ap (λ (t : List ℕ). reply.Text t) same
clone-reply (reply.Total a) (reply.Total b) same = ap (λ (n : ℕ). reply.Total n) same
clone-reply reply.Bye reply.Bye same = refl
clone-reply (reply.Error a) (reply.Error b) same = ap (λ (f : Fault). reply.Error f) same
clone-reply _ _ same = absurd same

clone-message : (x y : Message) → (message_clone.TheImpl.ghosts).is_clone x y → y ≡ x
clone-message (message.Bytes a) (message.Bytes b) same = ap (λ (t : List ℕ). message.Bytes t) same
clone-message (message.Line a) (message.Line b) same = ap (λ (t : List ℕ). message.Line t) same
clone-message (message.Command a) (message.Command b) same = ap (λ (c : Command). message.Command c) (clone-command a b same)
clone-message (message.Reply a) (message.Reply b) same = ap (λ (r : Reply). message.Reply r) (clone-reply a b same)
clone-message _ _ same = absurd same

pub clone-event : (x y : Event) → (event_clone.TheImpl.ghosts).is_clone x y → y ≡ x
clone-event event.Active event.Active same = refl
clone-event (event.Read a) (event.Read b) same = ap (λ (m : Message). event.Read m) (clone-message a b same)
clone-event event.ReadComplete event.ReadComplete same = refl
clone-event (event.Caught a) (event.Caught b) same = ap (λ (t : Caught). event.Caught t) same
clone-event (event.User a) (event.User b) same = ap (λ (n : ℕ). event.User n) same
clone-event (event.Write a) (event.Write b) same = ap (λ (m : Message). event.Write m) (clone-message a b same)
clone-event event.Flush event.Flush same = refl
clone-event _ _ same = absurd same
