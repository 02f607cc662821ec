mod PrintedLaws
