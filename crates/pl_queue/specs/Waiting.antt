-- What the passes of a channel tell.
use Rattle.crossbeam_channel.specs.Claims.{Pass, view}
use Rattle.pl_event.specs.declared.envelopes.Envelope.{Envelope}
use Rattle.pl_queue.specs.declared.views.SenderView.{SenderView}
use Rattle.pl_queue.specs.declared.views.TakerView.{TakerView}
use Rattle.pl_queue.specs.declared.views.PassView.{PassView}

abbrev pub sends_by : Pass Envelope PassView → SenderView
sends_by p = (view p).sends

abbrev pub takes_by : Pass Envelope PassView → TakerView
takes_by p = (view p).takes
