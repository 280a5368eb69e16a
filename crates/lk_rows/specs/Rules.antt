-- What the laws of histories read of a setup.
use Rattle.lk_names.specs.Lawful.{Rules}
use Rattle.lk_rows.specs.declared.setup.Setup.{Setup}

abbrev pub rules_of : Setup → Rules
rules_of setup =
    record {
      format = setup.format;
      mode = setup.mode;
      sockets = setup.topology.sockets.items;
      threshold = setup.threshold;
    }
