mod FirstHomes
