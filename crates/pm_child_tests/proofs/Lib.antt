mod Crews
