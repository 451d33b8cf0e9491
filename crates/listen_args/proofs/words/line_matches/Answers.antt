-- One option after the other.
use Rattle.listen_args.specs.ListenOptions.{listen_app}
use Rattle.listen_args.proofs.WordLemmas.{is_free}
use Rattle.listen_args.proofs.words.line_matches.Goals as goal

pub returns : goal.returns
returns c =
    let whole = c.add_number-ordered.ensures.app _
    (c.add_number-groups.ensures.app _
    (c.add_number-reply.ensures.app _
    (c.add_number-query.ensures.app _
    (c.add_number-idle.ensures.app _
    (c.add_number-head.ensures.app _
    (c.add_number-places.ensures.app _
    (c.add_flag-log.ensures.app _
    (c.add_flag-plain.ensures.app _
    (c.add_flag-stdin.ensures.app _
    (c.add_text-drain.ensures.app _
    (c.add_text-unix.ensures.app _
    (c.add_text-address.ensures.app _
    (c.add_port-port.ensures.app _
    (c.add_folder-folder.ensures.app _ c.top_command-top.ensures.app)))))))))))))) in record {
      matches = c.matches_of.ensures.matches listen_app whole is_free;
      fault = c.matches_of.ensures.fault listen_app whole is_free;
    }
